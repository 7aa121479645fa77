-- New variables: over them the facts before are formulas still and hold with any values for them.
use Rattle.std.proofs.Common.{◌≡◌, ◌∙◌, refl, sym, ap, ℕ, zero, suc, ◌+◌, ◌-◌, ◌≤◌, true, IsTrue, Some, List, [], ◌∷◌, ◌++◌, length, get_or, arith}
use Rattle.std.specs.Prelude.{All, slice_get}
use Rattle.logic_core.proofs.Booleans.{both_true, all_true}
use Rattle.logic_core.specs.Tree.{Kind, boolean, Tree, free}
use Rattle.logic_core.specs.Value.{Value, holds, at, is_of, are_of}
use Rattle.logic_core.specs.Def.{Def}
use Rattle.logic_core.specs.View.{trees_of}
use Rattle.logic_core.specs.Valid.{calls_of}
use Rattle.logic_core.specs.Sorts.{is, sort_of, are, bodies_sorted}
use Rattle.logic_core.proofs.Kept.{true_stable}
use Rattle.logic_core.proofs.Defined.{has_defined, keeps_defined}
use Rattle.logic_laws.proofs.SortTests.{sort_is}
use Rattle.logic_laws.proofs.Tables.{at_next, are_of_append, are_of_length}
use Rattle.logic_laws.proofs.SortFrame.{within_more, within_itself, sort_over}
use Rattle.logic_laws.proofs.ValueFrame.{agree_more, agree_itself, at_second, gives_over}
use Rattle.logic_laws.proofs.Unfolding.{same_calls_over}
use Rattle.logic_laws.proofs.Bodies.{bodies_over}
use Rattle.logic_laws.proofs.Assigned.{same_more}
use Rattle.logic_laws.proofs.Gives.{GivesEach}
use Rattle.proof_core.specs.Context.{Context, variables_from, with_variables}
use Rattle.proof_core.specs.Soundness.{IsSorted, IsUnsatisfiable}
use Rattle.logic_core.specs.WellSorted.{IsFormula}
use Rattle.proof_core.proofs.Closed.{HoldsIn, AllHold, Has}
use Rattle.proof_core.proofs.Appended.{Extends, refuted}

-- what all have, all have that follows from it
pub all_then : {A : Type 0} (P Q : A → Type 0) (xs : List A) → ((x : A) → P x → Q x) → All P xs → All Q xs
all_then P Q xs f all k x l = f _ (all k x l)

-- behind a list stands the next one
pub slice_after : {A : Type 0} (xs ys : List A) (n i : ℕ) → n ≡ length xs + i → slice_get (xs ++ ys) n ≡ slice_get ys i
slice_after [] ys n i e = let same : n ≡ i = omega arith in ap (slice_get ys) same
slice_after (x ∷ xs) ys zero i e = absurd (omega arith)
slice_after (x ∷ xs) ys (suc n) i e = slice_after xs ys n i (omega arith)

pub value_after : (vs ws : List Value) (n i : ℕ) → n ≡ length vs + i → at (vs ++ ws) n ≡ at ws i
value_after vs ws n i e = let within : length vs ≤ n = omega arith in let same : n - length vs ≡ i = omega arith in at_second vs ws n within ∙ ap (at ws) same

-- the variables from n on have these sorts, and these values
pub variables_sort : (vars : List Kind) (defs : List Def) (n : ℕ) (ks : List Kind) → ((i : ℕ) → slice_get vars (n + i) ≡ slice_get ks i) → are vars defs [] ks (trees_of (variables_from n ks)) ≡ true
variables_sort vars defs n [] h = refl
variables_sort vars defs n (k ∷ ks) h =
    let here : n ≡ n + 0 = omega arith in
    let first : slice_get vars n ≡ Some k = ap (slice_get vars) here ∙ h 0 in
    all_true (is k (sort_of vars defs [] (free n))) (are vars defs [] ks (trees_of (variables_from (n + 1) ks))) (sort_is k (sort_of vars defs [] (free n)) first)
    (variables_sort vars defs (n + 1) ks (λ i. let next : (n + 1) + i ≡ n + suc i = omega arith in ap (slice_get vars) next ∙ h (suc i)))

pub variables_give : (frees : List Value) (defs : List Def) (n : ℕ) (ks : List Kind) (vs : List Value) → are_of ks vs ≡ true → ((i : ℕ) → at frees (n + i) ≡ at vs i) → GivesEach frees (calls_of frees defs) (trees_of (variables_from n ks)) [] vs
variables_give frees defs n [] [] fit h = refl
variables_give frees defs n (k ∷ ks) (v ∷ vs) fit h =
    let here : n ≡ n + 0 = omega arith in
    let first : v ≡ at frees n = sym (ap (at frees) here ∙ h 0) in
    let rest = both_true (is_of k v) (are_of ks vs) fit in
    (v, vs, first, variables_give frees defs (n + 1) ks vs rest.1 (λ i. let next : (n + 1) + i ≡ n + suc i = omega arith in ap (at frees) next ∙ h (suc i) ∙ at_next v vs i), refl)
variables_give frees defs n [] (v ∷ vs) fit h = absurd (cc)
variables_give frees defs n (k ∷ ks) [] fit h = absurd (cc)

module _ (defs : List Def) (c : Context) (ks : List Kind) (s : IsSorted defs c) where
  pub more_sort : (t : Tree) (b : List Kind) (k : Kind) → sort_of c.vars defs b t ≡ Some k → sort_of (c.vars ++ ks) defs b t ≡ Some k
  more_sort t b k h = sort_over c.vars defs (c.vars ++ ks) defs (within_more c.vars ks) (within_itself defs) t b b (within_itself b) k h

  pub more_bodies : bodies_sorted (c.vars ++ ks) [] defs ≡ true
  more_bodies = bodies_over c.vars (c.vars ++ ks) defs (within_more c.vars ks) s.definitions

  pub more_sorted : IsSorted defs (with_variables c ks)
  more_sorted = record { definitions = more_bodies; facts = all_then (IsFormula c.vars defs) (IsFormula (c.vars ++ ks) defs) c.facts (λ t h. more_sort t [] boolean h) s.facts }

  module _ (frees : List Value) (fit : IsTrue (are_of c.vars frees)) where
    -- the values of the new variables
    pub next_value : (vs : List Value) (i : ℕ) → at (frees ++ vs) (length c.vars + i) ≡ at vs i
    next_value vs i = let same = are_of_length c.vars frees fit in value_after frees vs (length c.vars + i) i (omega arith)

    pub more_holds : (vs : List Value) (t : Tree) → IsFormula c.vars defs t → HoldsIn defs frees t → HoldsIn defs (frees ++ vs) t
    more_holds vs t formula h = (same_more c.vars defs frees (s.definitions, fit) vs t [] [] boolean formula (λ v. IsTrue (holds v)) (λ v. true_stable (holds v))).0 h

    pub more_value : (vs : List Value) (t : Tree) (k : Kind) (r : Value) → sort_of c.vars defs [] t ≡ Some k → Has defs frees t r → Has defs (frees ++ vs) t r
    more_value vs t k r h g = gives_over c.vars defs frees (calls_of frees defs) (has_defined frees defs) (keeps_defined frees defs) (frees ++ vs) (calls_of (frees ++ vs) defs) (has_defined (frees ++ vs) defs) (keeps_defined (frees ++ vs) defs)
        (agree_more c.vars frees vs fit) (same_calls_over c.vars frees (frees ++ vs) (agree_more c.vars frees vs fit) defs s.definitions) t [] [] [] k r (agree_itself [] []) h g

    all_hold : (vs : List Value) → AllHold defs frees c.facts → AllHold defs (frees ++ vs) c.facts
    all_hold vs all k x l = more_holds vs (get_or c.facts k x) (s.facts k x l) (all k x l)

  -- formulas over new variables that hold for some values of these
  pub newly_followed : (d : Context) (ts : List Tree) → Extends defs (with_variables c ks) ts d
      → ((frees : List Value) → IsTrue (are_of c.vars frees) → AllHold defs frees c.facts → ((vs : List Value) → are_of ks vs ≡ true → AllHold defs (frees ++ vs) ts → ⊥) → ⊥) → IsSorted defs d × (IsUnsatisfiable defs d → IsUnsatisfiable defs c)
  newly_followed d ts x some = (
    x.sorted,
    λ unsat frees fit all. some frees fit all (λ vs h new. refuted defs (with_variables c ks) ts d x unsat (frees ++ vs) (are_of_append c.vars ks frees vs fit h) (all_hold frees fit vs all) new),
  )
