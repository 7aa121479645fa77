-- Rounds over entries find what names lead to.
use Rattle.std.proofs.Common.{◌≡◌, refl, sym, ap, ◌∙◌, ℕ, zero, suc, ◌+◌, ◌-◌, ◌≤◌, Bool, true, false, true≢false, ◌||◌, is_some, cond, ◌==◌, List, [], ◌∷◌, ◌++◌, map, length, slice_get, Option, Some, None, option_map, bytes_eq, arith}
use Rattle.std.specs.List.{list_any}
use Rattle.std.proofs.lemmas.Option.{slice_get-map}
use Rattle.std.proofs.lemmas.Bool.{false_from_ne_true}
use Rattle.std.proofs.lemmas.Bool.Decides.{Decides-eqb}
use Rattle.std.proofs.lemmas.Slice.Eq.{bytes_eq-Decides}
use Rattle.std.proofs.lemmas.List.{append-nil}
use Rattle.bpl_scopes.specs.Positions.{first_at, or_other}
use Rattle.bpl_scopes.specs.Scopes.{Text, Table, Entry}
use Rattle.bpl_scopes.specs.KnownSorts.{names_in}
use Rattle.bpl_scopes.specs.Functions.{is_logical_within, is_logical, leads, leads_to_itself}
use Rattle.bpl_scopes.specs.LogicalView.{logical_at}
use Rattle.bpl_scopes.proofs.SynonymRounds.{ups_is}
use Rattle.bpl_dependencies.specs.Reach.{next_of, reaches, flags_at, first_position, AreEdges, is_quantified_at, leads_at_once}
use Rattle.bpl_dependencies.specs.Rounds.{leads_on, round_of, rounds_of, has_edge, edges_into}

none_is_some : {A : Type 0} (a : A) → None ≡ Some a → ⊥
none_is_some a h = true≢false (sym (ap is_some h))

-- the name stands where it was found
pub found_there : (n : Text) (ns : List Text) (i : ℕ) → first_at n ns ≡ Some i → slice_get ns i ≡ Some n
found_there n [] i h = absurd (none_is_some i h)
found_there n (m ∷ ms) i h = by (bytes_eq n m) refl (found_there n ms) h
  where
    under : ((j : ℕ) → first_at n ms ≡ Some j → slice_get ms j ≡ Some n) → (o : Option ℕ) → first_at n ms ≡ o → option_map suc o ≡ Some i → slice_get (m ∷ ms) i ≡ Some n
    under there None e g = absurd (none_is_some i g)
    under there (Some j) e g = ap (slice_get (m ∷ ms)) (sym (ap (λ o. or_other o 0) g)) ∙ there j e

    by : (b : Bool) → bytes_eq n m ≡ b → ((j : ℕ) → first_at n ms ≡ Some j → slice_get ms j ≡ Some n) → cond b (Some 0) (option_map suc (first_at n ms)) ≡ Some i → slice_get (m ∷ ms) i ≡ Some n
    by true e there g = ap (slice_get (m ∷ ms)) (sym (ap (λ o. or_other o 0) g)) ∙ ap Some (sym ((bytes_eq-Decides n m).0 e))
    by false e there g = under there (first_at n ms) refl g

pub flag_there : (t : Table) (q : Text → Bool) (i : ℕ) (n : Text) → slice_get (names_in t) i ≡ Some n → slice_get (flags_at t q) i ≡ Some (q n)
flag_there t q i n h = slice_get-map (λ (e : Entry). q e.name) t i ∙ by (slice_get t i) (sym (slice_get-map (λ (e : Entry). e.name) t i) ∙ h)
  where
    by : (o : Option Entry) → option_map (λ (e : Entry). e.name) o ≡ Some n → option_map (λ (e : Entry). q e.name) o ≡ Some (q n)
    by None g = absurd (none_is_some n g)
    by (Some e) g = ap (λ o. option_map q o) g

pub any_next : (t : Table) (q : Text → Bool) (es : List ℕ) (ns : List Text) → map Some es ≡ map (first_position t) ns → leads_on es (flags_at t q) ≡ list_any q ns
any_next t q [] [] h = refl
any_next t q [] (n ∷ ns) h = cc
any_next t q (i ∷ es) [] h = cc
any_next t q (i ∷ es) (n ∷ ns) h =
    let here : Some i ≡ first_at n (names_in t) = cc in
    let rest : map Some es ≡ map (first_position t) ns = cc in
    ap (λ o. or_other o false || leads_on es (flags_at t q)) (flag_there t q i n (found_there n (names_in t) i (sym here))) ∙ ap (λ b. q n || b) (any_next t q es ns rest)

none_next : (es : List ℕ) (ns : List Text) → leads_on es [] ≡ list_any (λ (n : Text). false) ns
none_next es ns = left es ∙ sym (right ns)
  where
    left : (is : List ℕ) → leads_on is [] ≡ false
    left [] = refl
    left (i ∷ is) = left is

    right : (ms : List Text) → list_any (λ (n : Text). false) ms ≡ false
    right [] = refl
    right (m ∷ ms) = right ms

round_all : (t : Table) (p q : Text → Bool) (fs : List Bool) → ((is : List ℕ) (ns : List Text) → map Some is ≡ map (first_position t) ns → leads_on is fs ≡ list_any q ns)
    → (ts : Table) (es : List (List ℕ)) → map (map Some) es ≡ map (λ (e : Entry). map (first_position t) (next_of t e.name)) ts
    → round_of (flags_at ts p) es fs ≡ map (λ (e : Entry). p e.name || list_any q (next_of t e.name)) ts
round_all t p q fs each [] es h = refl
round_all t p q fs each (e ∷ ts) [] h = cc
round_all t p q fs each (e ∷ ts) (is ∷ es) h =
    let here : map Some is ≡ map (first_position t) (next_of t e.name) = cc in
    let rest : map (map Some) es ≡ map (λ (c : Entry). map (first_position t) (next_of t c.name)) ts = cc in
    (λ j. (p e.name || each is (next_of t e.name) here j) ∷ round_all t p q fs each ts es rest j)

pub rounds_reach : (t : Table) (p : Text → Bool) (es : List (List ℕ)) → AreEdges t es → (k : ℕ) → rounds_of (flags_at t p) es (suc k) ≡ flags_at t (reaches t p (suc k))
rounds_reach t p es h zero = round_all t p (reaches t p 0) [] (λ is ns e. none_next is ns) t es h
rounds_reach t p es h (suc k) = ap (round_of (flags_at t p) es) (rounds_reach t p es h k) ∙ round_all t p (reaches t p (suc k)) (flags_at t (reaches t p (suc k))) (any_next t (reaches t p (suc k))) t es h

flags_length : (t : Table) (p : Text → Bool) → length (flags_at t p) ≡ length t
flags_length [] p = refl
flags_length (e ∷ t) p = omega (arith, flags_length t p)

pub all_reached : (t : Table) (p : Text → Bool) (es : List (List ℕ)) → AreEdges t es → rounds_of (flags_at t p) es (length (flags_at t p)) ≡ flags_at t (reaches t p (length t))
all_reached [] p es h = refl
all_reached (e ∷ t) p es h = ap (rounds_of (flags_at (e ∷ t) p) es) (flags_length (e ∷ t) p) ∙ rounds_reach (e ∷ t) p es h (length t)

-- where no edges are left, nothing more comes
pub ended : (before bs fs : List Bool) → before ++ round_of bs [] fs ≡ before
ended before [] fs = append-nil before
ended before (b ∷ bs) fs = append-nil before

abbrev pub ups : ℕ → ℕ → ℕ
ups zero k = k
ups (suc d) k = suc (ups d k)

stays : (bs : List Bool) (es : List (List ℕ)) (k : ℕ) → rounds_of bs es (suc k) ≡ rounds_of bs es k → (d : ℕ) → rounds_of bs es (ups d k) ≡ rounds_of bs es k
stays bs es k h zero = refl
stays bs es k h (suc d) = ap (round_of bs es) (stays bs es k h d) ∙ h

-- once a round finds nothing new, no later one does
pub settled : (bs : List Bool) (es : List (List ℕ)) (k m : ℕ) → rounds_of bs es (suc k) ≡ rounds_of bs es k → k ≤ m → rounds_of bs es k ≡ rounds_of bs es m
settled bs es k m h below =
    let at : ups (m - k) k ≡ m = ups_is (m - k) k ∙ omega arith in
    sym (stays bs es k h (m - k)) ∙ ap (rounds_of bs es) at

logical_reaches : (t : Table) (k : ℕ) (n : Text) → reaches t (is_quantified_at t) k n ≡ is_logical_within t k n
logical_reaches t zero n = refl
logical_reaches t (suc k) n = by (is_quantified_at t n) (λ i. list_any (λ m. logical_reaches t k m i) (next_of t n))
  where
    by : (b : Bool) → list_any (reaches t (is_quantified_at t) k) (next_of t n) ≡ list_any (is_logical_within t k) (next_of t n)
        → (b || list_any (reaches t (is_quantified_at t) k) (next_of t n)) ≡ elim b [ true ↦ true | false ↦ list_any (is_logical_within t k) (next_of t n) ]
    by true h = refl
    by false h = h

pub logical_flags : (t : Table) → flags_at t (reaches t (is_quantified_at t) (length t)) ≡ logical_at t
unfolding is_logical
logical_flags t i = map (λ (e : Entry). logical_reaches t (length t) e.name i) t

either : (p q : Text → Bool) (ns : List Text) → (list_any p ns || list_any q ns) ≡ list_any (λ n. elim (p n) [ true ↦ true | false ↦ q n ]) ns
either p q [] = refl
either p q (n ∷ ns) = by (p n) (q n) (list_any p ns) (list_any q ns) ∙ ap (λ b. elim (p n) [ true ↦ true | false ↦ q n ] || b) (either p q ns)
  where
    by : (a b c d : Bool) → ((a || c) || (b || d)) ≡ (elim a [ true ↦ true | false ↦ b ] || (c || d))
    by true b c d = refl
    by false true true d = refl
    by false true false d = refl
    by false false c d = refl

leads_reaches : (t : Table) (k : ℕ) (n m : Text) → reaches t (leads_at_once t m) k n ≡ leads t k n m
leads_reaches t zero n m = refl
leads_reaches t (suc k) n m = (λ i. list_any (λ c. bytes_eq c m) (next_of t n) || list_any (λ c. leads_reaches t k c m i) (next_of t n)) ∙ either (λ c. bytes_eq c m) (λ c. leads t k c m) (next_of t n)

pub leads_back : (t : Table) (n : Text) → reaches t (leads_at_once t n) (length t) n ≡ leads_to_itself t n
unfolding leads_to_itself
leads_back t n = leads_reaches t (length t) n n

-- two names stand first at one place where they are one
same_place : (ns : List Text) (i at : ℕ) (c m : Text) → first_at c ns ≡ Some i → first_at m ns ≡ Some at → (i == at) ≡ bytes_eq c m
same_place ns i at c m here there = by (bytes_eq c m) refl
  where
    by : (b : Bool) → bytes_eq c m ≡ b → (i == at) ≡ b
    by true e = (Decides-eqb i at).1 (ap (λ o. or_other o 0) (sym here ∙ ap (λ n. first_at n ns) ((bytes_eq-Decides c m).0 e) ∙ there))
    by false e = false_from_ne_true (i == at) (λ h.
        let one : c ≡ m = ap (λ o. or_other o []) (sym (found_there c ns i here) ∙ ap (slice_get ns) ((Decides-eqb i at).0 h) ∙ found_there m ns at there) in
        true≢false (sym ((bytes_eq-Decides c m).1 one) ∙ e))

edge_next : (t : Table) (m : Text) (at : ℕ) → first_position t m ≡ Some at → (is : List ℕ) (ns : List Text) → map Some is ≡ map (first_position t) ns → list_any (λ i. i == at) is ≡ list_any (λ c. bytes_eq c m) ns
edge_next t m at there [] [] h = refl
edge_next t m at there [] (n ∷ ns) h = cc
edge_next t m at there (i ∷ is) [] h = cc
edge_next t m at there (i ∷ is) (n ∷ ns) h =
    let here : Some i ≡ first_at n (names_in t) = cc in
    let rest : map Some is ≡ map (first_position t) ns = cc in
    (λ j. same_place (names_in t) i at n m (sym here) there j || edge_next t m at there is ns rest j)

edges_all : (t : Table) (m : Text) (at : ℕ) → first_position t m ≡ Some at → (ts : Table) (es : List (List ℕ)) → map (map Some) es ≡ map (λ (e : Entry). map (first_position t) (next_of t e.name)) ts → map (λ is. list_any (λ i. i == at) is) es ≡ map (λ (e : Entry). leads_at_once t m e.name) ts
edges_all t m at there [] [] h = refl
edges_all t m at there [] (is ∷ es) h = cc
edges_all t m at there (e ∷ ts) [] h = cc
edges_all t m at there (e ∷ ts) (is ∷ es) h =
    let here : map Some is ≡ map (first_position t) (next_of t e.name) = cc in
    let rest : map (map Some) es ≡ map (λ (c : Entry). map (first_position t) (next_of t c.name)) ts = cc in
    (λ j. edge_next t m at there is (next_of t e.name) here j ∷ edges_all t m at there ts es rest j)

-- which entries lead to a name at once
pub edges_to : (t : Table) (m : Text) (at : ℕ) (es : List (List ℕ)) → AreEdges t es → first_position t m ≡ Some at → edges_into es at ≡ flags_at t (leads_at_once t m)
unfolding has_edge
edges_to t m at es h there = edges_all t m at there t es h

-- the flag of a name, beside its first entry
pub own_flag : (t : Table) (m : Text) (at : ℕ) → first_position t m ≡ Some at → slice_get (flags_at t (reaches t (leads_at_once t m) (length t))) at ≡ Some (leads_to_itself t m)
own_flag t m at there = flag_there t (reaches t (leads_at_once t m) (length t)) at m (found_there m (names_in t) at there) ∙ ap Some (leads_back t m)

-- logical functions in rounds from no flags on
pub logical_from : (t : Table) (es : List (List ℕ)) (base : List Bool) → AreEdges t es → base ≡ flags_at t (is_quantified_at t) → rounds_of base es (length base) ≡ logical_at t
logical_from t es base h e = ap (λ bs. rounds_of bs es (length bs)) e ∙ all_reached t (is_quantified_at t) es h ∙ logical_flags t
