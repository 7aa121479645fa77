-- The names to which edges lead.
use Rattle.std.proofs.Common.{◌≡◌, refl, sym, ap, ◌∙◌, ℕ, zero, suc, ◌-◌, ◌<◌, arith, Bool, true, false, true≢false, is_some, cond, List, [], ◌∷◌, ◌++◌, map, filter, fold, slice_get, Option, Some, None, option_map}
use Rattle.std.proofs.lemmas.Option.{slice_get-map}
use Rattle.bpl_scopes.specs.Positions.{first_at, or_other, beside}
use Rattle.bpl_scopes.specs.Scopes.{Text, Table, Entry, entity_of}
use Rattle.bpl_scopes.specs.KnownSorts.{names_in}
use Rattle.bpl_scopes.specs.Functions.{next_names, numbered}
use Rattle.bpl_scopes.proofs.FirstAt.{entity_at, entity_first}
use Rattle.bv_base.specs.Text.{is_among}
use Rattle.bpl_scopes.specs.TableView.{entry_seen, entries_seen}
use Rattle.bpl_scopes.specs.declared.table.Entry.{Entry as kept}
use Rattle.bpl_dependencies.specs.NamesAt.{name_at, names_at, looked_name}
use Rattle.bpl_dependencies.specs.Reach.{next_of, first_position, AreEdges}
use Rattle.bpl_dependencies.proofs.Reaching.{found_there}

names_back : (t : Table) (is : List ℕ) (ns : List Text) → map Some is ≡ map (first_position t) ns → names_at (names_in t) is ≡ ns
names_back t [] [] h = refl
names_back t [] (n ∷ ns) h = cc
names_back t (i ∷ is) [] h = cc
names_back t (i ∷ is) (n ∷ ns) h =
    let here : Some i ≡ first_at n (names_in t) = cc in
    let rest : map Some is ≡ map (first_position t) ns = cc in
    (λ j. or_other (found_there n (names_in t) i (sym here) j) [] ∷ names_back t is ns rest j)

some_is : {A : Type 0} (d a b : A) → Some a ≡ Some b → a ≡ b
some_is d a b h = ap (λ o. or_other o d) h

-- the edges at a position belong to the name there
edges_there : (t : Table) (n : Text) (i : ℕ) (ts : Table) (es : List (List ℕ)) → map (map Some) es ≡ map (λ (e : Entry). map (first_position t) (next_of t e.name)) ts → slice_get (names_in ts) i ≡ Some n → map Some (or_other (slice_get es i) []) ≡ map (first_position t) (next_of t n)
edges_there t n i ts es h at =
    let left : slice_get (map (map Some) es) i ≡ option_map (map Some) (slice_get es i) = slice_get-map (map Some) es i in
    let right : slice_get (map (λ (e : Entry). map (first_position t) (next_of t e.name)) ts) i ≡ option_map (λ (e : Entry). map (first_position t) (next_of t e.name)) (slice_get ts i) = slice_get-map (λ (e : Entry). map (first_position t) (next_of t e.name)) ts i in
    let name : slice_get (names_in ts) i ≡ option_map (λ (e : Entry). e.name) (slice_get ts i) = slice_get-map (λ (e : Entry). e.name) ts i in
    by (slice_get es i) (slice_get ts i) (sym left ∙ ap (λ l. slice_get l i) h ∙ right) (sym name ∙ at)
  where
    by : (o : Option (List ℕ)) (p : Option Entry) → option_map (map Some) o ≡ option_map (λ (e : Entry). map (first_position t) (next_of t e.name)) p → option_map (λ (e : Entry). e.name) p ≡ Some n → map Some (or_other o []) ≡ map (first_position t) (next_of t n)
    by o None g k = absurd (true≢false (sym (ap is_some k)))
    by None (Some e) g k = absurd (true≢false (sym (ap is_some g)))
    by (Some is) (Some e) g k = some_is [] (map Some is) (map (first_position t) (next_of t e.name)) g ∙ ap (λ m. map (first_position t) (next_of t m)) (some_is [] e.name n k)

-- the edges of a name lead to the names to which it leads
pub next_is : (t : Table) (n : Text) (es : List (List ℕ)) → AreEdges t es → names_at (names_in t) (beside [] es (first_at n (names_in t))) ≡ next_names t (entity_of t n)
next_is t n es h = by (first_at n (names_in t)) refl
  where
    by : (o : Option ℕ) → first_at n (names_in t) ≡ o → names_at (names_in t) (beside [] es o) ≡ next_names t (entity_of t n)
    by None e = sym (ap (next_names t) (entity_first t n ∙ ap (entity_at t) e))
    by (Some i) e = names_back t (or_other (slice_get es i) []) (next_of t n) (edges_there t n i t es h (found_there n (names_in t) i e))

pub numbered_next : {A : Type 0} (f : A → Text → A) (g : Text → Bool) (a : A) (n : Text) (ns : List Text) → fold f a (filter g (n ∷ ns)) ≡ fold f (fold f a (filter g (n ∷ []))) (filter g ns)
numbered_next {A} f g a n ns = by (g n)
  where
    by : (b : Bool) → fold f a (cond b (n ∷ filter g ns) (filter g ns)) ≡ fold f (fold f a (cond b (n ∷ []) [])) (filter g ns)
    by true = refl
    by false = refl

pub name_looked : (es : List kept) (i : ℕ) → looked_name es i ≡ name_at (names_in (entries_seen es)) i
name_looked es i = sym (ap (λ o. or_other o []) (slice_get-map (λ (e : Entry). e.name) (entries_seen es) i ∙ ap (option_map (λ (e : Entry). e.name)) (slice_get-map entry_seen es i)) ∙ by (slice_get es i))
  where
    by : (o : Option kept) → or_other (option_map (λ (e : Entry). e.name) (option_map entry_seen o)) [] ≡ or_other (option_map (λ e. e.name.now) o) []
    by None = refl
    by (Some e) = refl

-- a name without a number stands behind those to which it leads
pub number_made : (t : Table) (es : List (List ℕ)) (n : Text) (room : ℕ) (done after : List Text) (next : List ℕ) → AreEdges t es → 0 < room → is_among done n ≡ false → next ≡ beside [] es (first_at n (names_in t)) → after ≡ fold (numbered t (room - 1)) done (names_at (names_in t) next) → after ++ n ∷ [] ≡ numbered t room done n
number_made t es n zero done after next h p f e g = absurd (omega (arith, p))
number_made t es n (suc k) done after next h p f e g =
    ap (λ l. l ++ n ∷ []) (g ∙ ap (λ j. fold (numbered t j) done (names_at (names_in t) next)) one ∙ ap (λ is. fold (numbered t k) done (names_at (names_in t) is)) e ∙ ap (fold (numbered t k) done) (next_is t n es h))
    ∙ sym (ap (λ b. elim b [ true ↦ done | false ↦ fold (numbered t k) done (next_names t (entity_of t n)) ++ n ∷ [] ]) f)
  where
    one : suc k - 1 ≡ k
    one = omega arith
