-- What has a mark, and what is new, after positions got marks.
use Rattle.std.specs.Prelude.{◌≡◌, refl, ◌⊎◌, ℕ, zero, suc, ◌+◌, ◌<◌, ◌==◌, Bool, true, false, cond, ◌||◌, List, [], ◌∷◌, ◌++◌, length, slice_index_or, slice_set}
use Rattle.std.specs.List.{list_any, flat_map}
use Rattle.std.proofs.Common.{arith, sym, ap, ◌∙◌, subst, get_or, drop, length-set, get_or-set_same, get_or-set_other}
use Rattle.std.proofs.lemmas.Bool.{eqb-true, eqb-false, or_cases, or_left, or_right, cases_lt}
use Rattle.std.proofs.lemmas.List.{get_or_default, get_or_past, at_drop_more}
use Rattle.logic_core.proofs.Booleans.{or_true, or_false}
use mathlib.Core.Logic.{inl, inr}
use Rattle.bpl_model.specs.Module.{DeclText}
use Rattle.bpl_model.specs.Marking.{Marking, is_marked, mark, mark_all, settled, follow_on}
use Rattle.bpl_model.specs.Walk.{text_at, row, on}
use Rattle.bpl_model.proofs.Members.{In, in_either, in_left, in_right}

pub within_marks : (ms : List Bool) (e : ℕ) → is_marked ms e ≡ true → e < length ms
within_marks [] e h = let c : false ≡ true = h in absurd cc
within_marks (m ∷ ms) zero h = omega arith
within_marks (m ∷ ms) (suc e) h = let l = within_marks ms e h in omega (l, arith)

mark_length : (s : Marking) (d : ℕ) → length (mark s d).marks ≡ length s.marks
mark_length s d = by (slice_index_or s.marks d true)
  where
    by : (b : Bool) → length (cond b s (record { marks = slice_set s.marks d true; fresh = s.fresh ++ d ∷ [] })).marks ≡ length s.marks
    by true = refl
    by false = length-set s.marks d true

pub marks_length : (s : Marking) (ds : List ℕ) → length (mark_all s ds).marks ≡ length s.marks
marks_length s [] = refl
marks_length s (d ∷ ds) = marks_length (mark s d) ds ∙ mark_length s d

pub set_at : (ms : List Bool) (d e : ℕ) → e < length ms → is_marked (slice_set ms d true) e ≡ (is_marked ms e || (d == e))
set_at ms d e l = by (d == e) refl
  where
    by : (b : Bool) → (d == e) ≡ b → is_marked (slice_set ms d true) e ≡ (is_marked ms e || b)
    by true k = let s : d ≡ e = eqb-true d e k in subst (λ x. is_marked (slice_set ms x true) e ≡ true) (sym s) (get_or-set_same ms e true false l) ∙ sym (or_true (is_marked ms e))
    by false k = let s : e ≡ d → ⊥ = λ q. eqb-false d e k (sym q) in get_or-set_other ms d e true false s ∙ sym (or_false (is_marked ms e))

mark_at : (s : Marking) (d e : ℕ) → e < length s.marks → is_marked (mark s d).marks e ≡ (is_marked s.marks e || (d == e))
mark_at s d e l = by (slice_index_or s.marks d true) refl
  where
    there : (b : Bool) → (d == e) ≡ b → slice_index_or s.marks d true ≡ true → is_marked s.marks e ≡ (is_marked s.marks e || b)
    there true k h =
        let q : d ≡ e = eqb-true d e k in
        let m : is_marked s.marks e ≡ true = get_or_default s.marks e false true l ∙ subst (λ x. slice_index_or s.marks x true ≡ true) q h in
        m ∙ sym (or_left (is_marked s.marks e) true m)
    there false k h = sym (or_false (is_marked s.marks e))

    by : (b : Bool) → slice_index_or s.marks d true ≡ b → is_marked (cond b s (record { marks = slice_set s.marks d true; fresh = s.fresh ++ d ∷ [] })).marks e ≡ (is_marked s.marks e || (d == e))
    by true h = there (d == e) refl h ∙ refl
    by false h = set_at s.marks d e l

-- a mark stands where one stood, or at one of the positions
pub marks_after : (s : Marking) (ds : List ℕ) (e : ℕ) → e < length s.marks → is_marked (mark_all s ds).marks e ≡ (is_marked s.marks e || list_any (λ y. y == e) ds)
marks_after s [] e l = sym (or_false (is_marked s.marks e))
marks_after s (d ∷ ds) e l =
    marks_after (mark s d) ds e (subst (λ n. e < n) (sym (mark_length s d)) l)
    ∙ ap (λ b. b || list_any (λ y. y == e) ds) (mark_at s d e l)
    ∙ assoc (is_marked s.marks e) (d == e) (list_any (λ y. y == e) ds)
  where
    assoc : (a b c : Bool) → ((a || b) || c) ≡ (a || (b || c))
    assoc true b c = refl
    assoc false b c = refl

-- what has a mark keeps it
pub marks_kept : (s : Marking) (ds : List ℕ) (e : ℕ) → is_marked s.marks e ≡ true → is_marked (mark_all s ds).marks e ≡ true
marks_kept s ds e h = marks_after s ds e (within_marks s.marks e h) ∙ or_left (is_marked s.marks e) (list_any (λ y. y == e) ds) h

-- each of the positions that is there gets a mark
pub marks_given : (s : Marking) (ds : List ℕ) (e : ℕ) → e < length s.marks → In ds e → is_marked (mark_all s ds).marks e ≡ true
marks_given s ds e l h = marks_after s ds e l ∙ or_right (is_marked s.marks e) (list_any (λ y. y == e) ds) h

unmarked_there : (ms : List Bool) (d : ℕ) → slice_index_or ms d true ≡ false → d < length ms
unmarked_there ms d f = elim (cases_lt d (length ms)) [
  | inl l ↦ l
  | inr g ↦ let c : true ≡ false = sym (get_or_past ms d true g) ∙ f in absurd cc
]

fresh_one : (s : Marking) (d e : ℕ) → In (mark s d).fresh e → In s.fresh e ⊎ (is_marked (mark s d).marks e ≡ true)
fresh_one s d e = by (slice_index_or s.marks d true) refl
  where
    after : Bool → Marking
    after b = cond b s (record { marks = slice_set s.marks d true; fresh = s.fresh ++ d ∷ [] })

    by : (b : Bool) → slice_index_or s.marks d true ≡ b → In (after b).fresh e → In s.fresh e ⊎ (is_marked (after b).marks e ≡ true)
    by true q h = inl h
    by false q h = elim (in_either s.fresh (d ∷ []) e h) [
      | inl i ↦ inl i
      | inr i ↦ inr (elim (or_cases (d == e) false i) [
        | inl k ↦ subst (λ x. is_marked (slice_set s.marks d true) x ≡ true) (eqb-true d e k) (get_or-set_same s.marks d true false (unmarked_there s.marks d q))
        | inr k ↦ let c : false ≡ true = k in absurd cc
      ])
    ]

-- what is new has a mark
pub fresh_marked : (s : Marking) (ds : List ℕ) (e : ℕ) → In (mark_all s ds).fresh e → In s.fresh e ⊎ (is_marked (mark_all s ds).marks e ≡ true)
fresh_marked s [] e h = inl h
fresh_marked s (d ∷ ds) e h = elim (fresh_marked (mark s d) ds e h) [
  | inl i ↦ elim (fresh_one s d e i) [ inl j ↦ inl j | inr m ↦ inr (marks_kept (mark s d) ds e m) ]
  | inr m ↦ inr m
]

one_fresh : (s : Marking) (d e : ℕ) → is_marked (mark s d).marks e ≡ true → (is_marked s.marks e ≡ true) ⊎ In (mark s d).fresh e
one_fresh s d e = by (slice_index_or s.marks d true)
  where
    after : Bool → Marking
    after b = cond b s (record { marks = slice_set s.marks d true; fresh = s.fresh ++ d ∷ [] })

    at_set : is_marked (slice_set s.marks d true) e ≡ true → (is_marked s.marks e ≡ true) ⊎ In (s.fresh ++ d ∷ []) e
    at_set h =
        let l : e < length s.marks = subst (λ n. e < n) (length-set s.marks d true) (within_marks (slice_set s.marks d true) e h) in
        elim (or_cases (is_marked s.marks e) (d == e) (sym (set_at s.marks d e l) ∙ h)) [
          | inl m ↦ inl m
          | inr k ↦ inr (in_right s.fresh (d ∷ []) e (or_left (d == e) false k))
        ]

    by : (b : Bool) → is_marked (after b).marks e ≡ true → (is_marked s.marks e ≡ true) ⊎ In (after b).fresh e
    by true h = inl h
    by false h = at_set h

fresh_kept_one : (s : Marking) (d e : ℕ) → In s.fresh e → In (mark s d).fresh e
fresh_kept_one s d e h = by (slice_index_or s.marks d true)
  where
    by : (b : Bool) → In (cond b s (record { marks = slice_set s.marks d true; fresh = s.fresh ++ d ∷ [] })).fresh e
    by true = h
    by false = in_left s.fresh (d ∷ []) e h

fresh_kept : (s : Marking) (ds : List ℕ) (e : ℕ) → In s.fresh e → In (mark_all s ds).fresh e
fresh_kept s [] e h = h
fresh_kept s (d ∷ ds) e h = fresh_kept (mark s d) ds e (fresh_kept_one s d e h)

-- a mark that stood not before is new
pub marked_before : (s : Marking) (ds : List ℕ) (e : ℕ) → is_marked (mark_all s ds).marks e ≡ true → (is_marked s.marks e ≡ true) ⊎ In (mark_all s ds).fresh e
marked_before s [] e h = inl h
marked_before s (d ∷ ds) e h = elim (marked_before (mark s d) ds e h) [
  | inl m ↦ elim (one_fresh s d e m) [ inl n ↦ inl n | inr i ↦ inr (fresh_kept (mark s d) ds e i) ]
  | inr i ↦ inr i
]

pub mark_append : (s : Marking) (xs ys : List ℕ) → mark_all s (xs ++ ys) ≡ mark_all (mark_all s xs) ys
mark_append s [] ys = refl
mark_append s (x ∷ xs) ys = mark_append (mark s x) xs ys

-- what the next of the declarations leads to
pub leads_step : (ts : List DeclText) (ds : List ℕ) (i : ℕ) (s : Marking) → i < length ds
    → mark_all s (flat_map (λ d. (text_at ts d).leads) (drop i ds)) ≡ mark_all (mark_all s (text_at ts (get_or ds i 0)).leads) (flat_map (λ d. (text_at ts d).leads) (drop (i + 1) ds))
leads_step ts ds i s lt =
    at_drop_more (λ es. mark_all s (flat_map (λ d. (text_at ts d).leads) es)) ds i 0 lt ∙ mark_append s (text_at ts (get_or ds i 0)).leads (flat_map (λ d. (text_at ts d).leads) (drop (i + 1) ds))

-- what the next declaration leads to
pub follow_step : (ts : List DeclText) (T : List (List ℕ)) (rs : List ℕ) (i : ℕ) (s : Marking) → i < length rs
    → mark_all s (flat_map (on ts T) (drop i rs)) ≡ mark_all (mark_all (mark_all s (text_at ts (get_or rs i 0)).contract_leads) (row T (get_or rs i 0))) (flat_map (on ts T) (drop (i + 1) rs))
follow_step ts T rs i s lt =
    at_drop_more (λ es. mark_all s (flat_map (on ts T) es)) rs i 0 lt
    ∙ mark_append s (on ts T (get_or rs i 0)) (flat_map (on ts T) (drop (i + 1) rs))
    ∙ ap (λ u. mark_all u (flat_map (on ts T) (drop (i + 1) rs))) (mark_append s (text_at ts (get_or rs i 0)).contract_leads (row T (get_or rs i 0)))

pub follow_on_step : (F : ℕ → List ℕ) (k j : ℕ) (s : Marking) → k ≡ j + 1 → follow_on F k s ≡ follow_on F j (mark_all (settled s) (flat_map F s.fresh))
follow_on_step F k j s e = let f : k ≡ suc j = omega (e, arith) in ap (λ n. follow_on F n s) f

pub follow_on_end : (F : ℕ → List ℕ) (k : ℕ) (s : Marking) → k ≡ 0 → follow_on F k s ≡ s
follow_on_end F k s e = ap (λ n. follow_on F n s) e

-- where nothing is new, nothing more gets a mark
pub follow_on_still : (F : ℕ → List ℕ) (k : ℕ) (s : Marking) → s.fresh ≡ [] → (follow_on F k s).marks ≡ s.marks
follow_on_still F zero s e = refl
follow_on_still F (suc k) s e =
    let still : mark_all (settled s) (flat_map F s.fresh) ≡ settled s = ap (λ xs. mark_all (settled s) (flat_map F xs)) e in
    ap (λ u. (follow_on F k u).marks) still ∙ follow_on_still F k (settled s) refl
