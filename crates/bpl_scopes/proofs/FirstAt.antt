-- Where a name stands first, as names are put in behind.
use Rattle.std.proofs.Common.{◌≡◌, refl, sym, ap, ◌∙◌, ℕ, suc, Bool, true, false, true≢false, ◌||◌, cond, is_some, List, [], ◌∷◌, ◌++◌, length, map, slice_get, Option, Some, None, option_map, bytes_eq, arith}
use Rattle.std.specs.Map.{lookup}
use Rattle.std.specs.Borrow.{Bor}
use Rattle.std.proofs.lemmas.Cmp.{nat_list_eq_equiv}
use Rattle.std.proofs.lemmas.Slice.Eq.{bytes_eq-Decides}
use Rattle.bv_base.specs.Text.{is_among}
use Rattle.bpl_scopes.specs.Positions.{first_at, beside, at_name, names_seen, HasFirst}
use Rattle.bpl_scopes.specs.TableView.{entity_seen, entry_seen, entries_seen, looked}
use Rattle.bpl_scopes.specs.declared.table.Entry.{Entry as kept}
use Rattle.std.proofs.lemmas.Option.{slice_get-map}
use Rattle.bpl_scopes.specs.Scopes.{Text, Entry, Entity, Table, entry_of, entity_of}

abbrev or_else : {A : Type 0} → Option A → Option A → Option A
or_else None b = b
or_else (Some a) b = Some a

lookup_behind : {K X : Type 0} (test : K → Bool) (es : List (K × X)) (k : K) (x : X) → lookup test (es ++ (k, x) ∷ []) ≡ or_else (lookup test es) (cond (test k) (Some x) None)
lookup_behind test [] k x = refl
lookup_behind {K} {X} test (e ∷ es) k x = by (test e.0) (lookup_behind test es k x)
  where
    by : (b : Bool) → lookup test (es ++ (k, x) ∷ []) ≡ or_else (lookup test es) (cond (test k) (Some x) None) → cond b (Some e.1) (lookup test (es ++ (k, x) ∷ [])) ≡ or_else (cond b (Some e.1) (lookup test es)) (cond (test k) (Some x) None)
    by true h = refl
    by false h = h

shifted : (o : Option ℕ) (b : Bool) (l : ℕ) → option_map suc (or_else o (cond b (Some l) None)) ≡ or_else (option_map suc o) (cond b (Some (suc l)) None)
shifted None true l = refl
shifted None false l = refl
shifted (Some i) b l = refl

first_behind : (n m : Text) (ns : List Text) → first_at n (ns ++ m ∷ []) ≡ or_else (first_at n ns) (cond (bytes_eq n m) (Some (length ns)) None)
first_behind n m [] = by (bytes_eq n m)
  where
    by : (b : Bool) → cond b (Some 0) (option_map suc None) ≡ cond b (Some 0) None
    by true = refl
    by false = refl
first_behind n m (k ∷ ns) = by (bytes_eq n k) (first_behind n m ns)
  where
    by : (b : Bool) → first_at n (ns ++ m ∷ []) ≡ or_else (first_at n ns) (cond (bytes_eq n m) (Some (length ns)) None) → cond b (Some 0) (option_map suc (first_at n (ns ++ m ∷ []))) ≡ or_else (cond b (Some 0) (option_map suc (first_at n ns))) (cond (bytes_eq n m) (Some (length (k ∷ ns))) None)
    by true h = refl
    by false h = ap (option_map suc) h ∙ shifted (first_at n ns) (bytes_eq n m) (length ns)

-- a name has a position where it is among the names
pub found_among : (n : Text) (ns : List Text) → is_some (first_at n ns) ≡ is_among ns n
found_among n [] = refl
found_among n (m ∷ ms) = by (bytes_eq n m) (found_among n ms)
  where
    under : (o : Option ℕ) → is_some (option_map suc o) ≡ is_some o
    under None = refl
    under (Some i) = refl

    by : (b : Bool) → is_some (first_at n ms) ≡ is_among ms n → is_some (cond b (Some 0) (option_map suc (first_at n ms))) ≡ (b || is_among ms n)
    by true h = refl
    by false h = under (first_at n ms) ∙ h

seen_length : (ns : List (Bor Text)) → length (names_seen ns) ≡ length ns
seen_length [] = refl
seen_length (n ∷ ns) = omega (arith, seen_length ns)

seen_behind : (ns : List (Bor Text)) (m : Bor Text) → names_seen (ns ++ m ∷ []) ≡ names_seen ns ++ m.now ∷ []
seen_behind [] m = refl
seen_behind (n ∷ ns) m = ap (λ l. n.now ∷ l) (seen_behind ns m)

-- a new name behind the others
pub has_first_new : (es fs : List (Bor Text × ℕ)) (ns ms : List (Bor Text)) (m : Bor Text) (at : ℕ) → HasFirst es (names_seen ns) → at ≡ length ns → fs ≡ es ++ (m, at) ∷ [] → ms ≡ ns ++ m ∷ [] → HasFirst fs (names_seen ms)
has_first_new es fs ns ms m at h is made put n =
    let place : at ≡ length (names_seen ns) = is ∙ sym (seen_length ns) in
    ap (lookup (λ k. bytes_eq n k.now)) made
    ∙ lookup_behind (λ k. bytes_eq n k.now) es m at
    ∙ (λ i. or_else (h n i) (cond (bytes_eq n m.now) (Some (place i)) None))
    ∙ sym (first_behind n m.now (names_seen ns))
    ∙ sym (ap (first_at n) (ap names_seen put ∙ seen_behind ns m))

-- a name that is there already
pub has_first_again : (es fs : List (Bor Text × ℕ)) (ns ms : List (Bor Text)) (m : Bor Text) → HasFirst es (names_seen ns) → is_some (lookup (λ k. bytes_eq m.now k.now) es) ≡ true → fs ≡ es → ms ≡ ns ++ m ∷ [] → HasFirst fs (names_seen ms)
has_first_again es fs ns ms m h there made put n = ap (lookup (λ k. bytes_eq n k.now)) made ∙ h n ∙ by (bytes_eq n m.now) refl ∙ sym (first_behind n m.now (names_seen ns)) ∙ sym (ap (first_at n) (ap names_seen put ∙ seen_behind ns m))
  where
    kept : (o : Option ℕ) (l : ℕ) → is_some o ≡ true → o ≡ or_else o (Some l)
    kept None l e = absurd (true≢false (sym e))
    kept (Some i) l e = refl

    nothing : (o : Option ℕ) → o ≡ or_else o None
    nothing None = refl
    nothing (Some i) = refl

    by : (b : Bool) → bytes_eq n m.now ≡ b → first_at n (names_seen ns) ≡ or_else (first_at n (names_seen ns)) (cond b (Some (length (names_seen ns))) None)
    by true e = kept (first_at n (names_seen ns)) (length (names_seen ns)) (ap (λ k. is_some (first_at k (names_seen ns))) ((bytes_eq-Decides n m.now).0 e) ∙ ap is_some (sym (h m.now)) ∙ there)
    by false e = nothing (first_at n (names_seen ns))

abbrev pub entity_at : Table → Option ℕ → Option Entity
entity_at t None = None
entity_at t (Some i) = option_map (λ (e : Entry). e.entity) (slice_get t i)

-- what a name is declared as stands in its first entry
pub entity_first : (t : Table) (n : Text) → entity_of t n ≡ entity_at t (first_at n (map (λ (e : Entry). e.name) t))
unfolding entity_of
entity_first [] n = refl
entity_first (e ∷ t) n = ap (λ b. option_map (λ (d : Entry). d.entity) (cond b (Some e) (entry_of t n))) (nat_list_eq_equiv.symm e.name n) ∙ by (bytes_eq n e.name) (entity_first t n)
  where
    next : (o : Option ℕ) → entity_at t o ≡ entity_at (e ∷ t) (option_map suc o)
    next None = refl
    next (Some i) = refl

    by : (b : Bool) → entity_of t n ≡ entity_at t (first_at n (map (λ (d : Entry). d.name) t)) → option_map (λ (d : Entry). d.entity) (cond b (Some e) (entry_of t n)) ≡ entity_at (e ∷ t) (cond b (Some 0) (option_map suc (first_at n (map (λ (d : Entry). d.name) t))))
    by true h = refl
    by false h = h ∙ next (first_at n (map (λ (d : Entry). d.name) t))

looked_is : (es : List kept) (o : Option ℕ) → entity_at (entries_seen es) o ≡ looked es o
looked_is es None = refl
looked_is es (Some i) = ap (option_map (λ (e : Entry). e.entity)) (slice_get-map entry_seen es i) ∙ by (slice_get es i)
  where
    by : (o : Option kept) → option_map (λ (e : Entry). e.entity) (option_map entry_seen o) ≡ option_map (λ e. entity_seen e.entity) o
    by None = refl
    by (Some e) = refl

pub entity_looked : (es : List kept) (n : Text) → entity_of (entries_seen es) n ≡ looked es (first_at n (map (λ (e : Entry). e.name) (entries_seen es)))
entity_looked es n = entity_first (entries_seen es) n ∙ looked_is es (first_at n (map (λ (e : Entry). e.name) (entries_seen es)))

-- what stands beside the first of equal names, where each entry has what its name gives
pub at_name-map : {A : Type 0} (d : A) (f : Text → A) (t : Table) (n : Text) → at_name d (map (λ (e : Entry). e.name) t) (map (λ (e : Entry). f e.name) t) n ≡ cond (is_among (map (λ (e : Entry). e.name) t) n) (f n) d
at_name-map d f [] n = refl
at_name-map {A} d f (e ∷ t) n = by (bytes_eq n e.name) refl (at_name-map d f t n)
  where
    next : (o : Option ℕ) → beside d (map (λ (c : Entry). f c.name) (e ∷ t)) (option_map suc o) ≡ beside d (map (λ (c : Entry). f c.name) t) o
    next None = refl
    next (Some i) = refl

    by : (b : Bool) → bytes_eq n e.name ≡ b → at_name d (map (λ (c : Entry). c.name) t) (map (λ (c : Entry). f c.name) t) n ≡ cond (is_among (map (λ (c : Entry). c.name) t) n) (f n) d → beside d (map (λ (c : Entry). f c.name) (e ∷ t)) (cond b (Some 0) (option_map suc (first_at n (map (λ (c : Entry). c.name) t)))) ≡ cond (b || is_among (map (λ (c : Entry). c.name) t) n) (f n) d
    by true h g = ap f (sym ((bytes_eq-Decides n e.name).0 h))
    by false h g = next (first_at n (map (λ (c : Entry). c.name) t)) ∙ g
