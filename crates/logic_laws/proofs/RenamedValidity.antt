-- Obligations that rename one another are valid together: each assignment of the one has one of the other with the same values.
use Rattle.std.specs.Prelude.{◌≡◌, refl, ℕ, zero, suc, ◌<◌, nat_eq, Bool, true, false, ◌&&◌, cond, IsTrue, List, [], ◌∷◌, map, length, slice_get, Some}
use Rattle.std.specs.List.{AllByRecursion}
use Rattle.std.proofs.Common.{arith, ap, ◌∙◌}
use Rattle.std.proofs.lemmas.Bool.{eqb-true, eq-eqb, and_from, and_parts, cases_eq}
use Rattle.std.proofs.lemmas.List.Elements.{All-from_recursion, recursion_from_All}
use mathlib.Core.Path.{subst, sym, transport, transport⁻¹}
use mathlib.Core.Logic.{inl, inr}
use Rattle.logic_core.specs.Tree.{Tree}
use Rattle.logic_core.specs.Def.{Obligation}
use Rattle.logic_core.specs.Value.{Value, holds, is_of, are_of, at}
use Rattle.logic_core.specs.Meaning.{Holds}
use Rattle.logic_core.specs.Valid.{calls_of, Valid}
use Rattle.logic_core.specs.Renamed.{both_renamed}
use Rattle.logic_laws.specs.RenamingLaws.{Covers, KeepValues, IsRenamedObligation, RenamingKeepsValidity}
use Rattle.logic_laws.proofs.Tables.{at_sort}
use Rattle.logic_laws.proofs.FilledValues.{filled, filled_are, filled_at}
use Rattle.logic_laws.proofs.RenamedCalls.{renamed_means}

number_there : {A : Type 0} (xs : List A) (n : ℕ) (x : A) → slice_get xs n ≡ Some x → n < length xs
number_there [] n x e = absurd cc
number_there (y ∷ xs) zero x e = omega arith
number_there (y ∷ xs) (suc n) x e = let below = number_there xs n x e in omega (below, arith)

-- the variable below n that is renamed to i
module _ (new_var : ℕ → ℕ) (vars? : ℕ → Bool) where
  abbrev source : ℕ → ℕ → ℕ
  source zero i = 0
  source (suc n) i = cond (vars? n && nat_eq (new_var n) i) n (source n i)

  is_source : (n v : ℕ) → v < n → IsTrue (vars? v) → IsTrue (vars? (source n (new_var v))) × (new_var (source n (new_var v)) ≡ new_var v)
  is_source zero v below h = absurd (omega (below, arith))
  is_source (suc n) v below h = by_test (is_source n v) (vars? n && nat_eq (new_var n) (new_var v)) refl
    where
      by_test : (v < n → IsTrue (vars? v) → IsTrue (vars? (source n (new_var v))) × (new_var (source n (new_var v)) ≡ new_var v)) → (b : Bool) → (vars? n && nat_eq (new_var n) (new_var v)) ≡ b → IsTrue (vars? (cond b n (source n (new_var v)))) × (new_var (cond b n (source n (new_var v))) ≡ new_var v)
      by_test rest true e = let p = and_parts (vars? n) (nat_eq (new_var n) (new_var v)) e in (p.0, eqb-true (new_var n) (new_var v) p.1)
      by_test rest false e = elim (cases_eq v n) [
        | inl same ↦ let t : (vars? n && nat_eq (new_var n) (new_var v)) ≡ true = and_from (vars? n) (nat_eq (new_var n) (new_var v)) (subst (λ u. IsTrue (vars? u)) same h) (eq-eqb (new_var n) (new_var v) (ap new_var (sym same))) in
            let c : false ≡ true = sym e ∙ t in absurd cc
        | inr apart ↦ let lower : v < n = omega (below, apart, arith) in rest lower h
      ]

module _ (new_def new_var : ℕ → ℕ) (defs? vars? : ℕ → Bool) (o o' : Obligation) (r : IsRenamedObligation new_def new_var defs? vars? o o') where
  module _ (frees frees' : List Value) (values : KeepValues new_def new_var defs? vars? frees frees') where
    same_truth : (t : Tree) → Covers new_def new_var defs? vars? t → Holds frees' (calls_of frees' o'.defs) (both_renamed new_def new_var t) [] ≡ Holds frees (calls_of frees o.defs) t []
    same_truth t covered = λ j. renamed_means new_def new_var defs? vars? o.defs o'.defs frees frees' values r.defs t covered j [] (λ v. IsTrue (holds v))

    same_axioms : (ts : List Tree) → AllByRecursion (Covers new_def new_var defs? vars?) ts
        → AllByRecursion (λ a. Holds frees' (calls_of frees' o'.defs) a []) (map (both_renamed new_def new_var) ts) ≡ AllByRecursion (λ a. Holds frees (calls_of frees o.defs) a []) ts
    same_axioms [] covered = refl
    same_axioms (t ∷ ts) covered = λ j. same_truth t covered.0 j × same_axioms ts covered.1 j

    same_given : AllByRecursion (λ a. Holds frees' (calls_of frees' o'.defs) a []) o'.axioms ≡ AllByRecursion (λ a. Holds frees (calls_of frees o.defs) a []) o.axioms
    same_given = ap (AllByRecursion (λ a. Holds frees' (calls_of frees' o'.defs) a [])) r.axioms ∙ same_axioms o.axioms (recursion_from_All (Covers new_def new_var defs? vars?) o.axioms r.axioms_covered)

    same_goal : Holds frees' (calls_of frees' o'.defs) o'.goal [] ≡ Holds frees (calls_of frees o.defs) o.goal []
    same_goal = ap (λ t. Holds frees' (calls_of frees' o'.defs) t []) r.goal ∙ same_truth o.goal r.goal_covered

  -- the values that the renamed variables have, at their new numbers
  forward : List Value → List Value
  forward frees = filled o'.vars (λ i. at frees (source new_var vars? (length o.vars) i))

  forward_keeps : (frees : List Value) → IsTrue (are_of o.vars frees) → KeepValues new_def new_var defs? vars? frees (forward frees)
  unfolding forward
  forward_keeps frees are v h =
      let k = r.vars_there v h in
      let s = is_source new_var vars? (length o.vars) v (number_there o.vars v k.0 k.1) h in
      let same : source new_var vars? (length o.vars) (new_var v) ≡ v = r.one_to_one (source new_var vars? (length o.vars) (new_var v)) v s.0 h s.1 in
      filled_at o'.vars (λ i. at frees (source new_var vars? (length o.vars) i)) (new_var v) k.0 (r.vars v h ∙ k.1)
      (subst (λ u. IsTrue (is_of k.0 (at frees u))) (sym same) (at_sort o.vars frees v k.0 are k.1))
      ∙ ap (at frees) same

  -- and the old ones' from the new
  backward : List Value → List Value
  backward frees' = filled o.vars (λ v. at frees' (new_var v))

  backward_keeps : (frees' : List Value) → IsTrue (are_of o'.vars frees') → KeepValues new_def new_var defs? vars? (backward frees') frees'
  unfolding backward
  backward_keeps frees' are v h =
      let k = r.vars_there v h in
      sym (filled_at o.vars (λ u. at frees' (new_var u)) v k.0 k.1 (at_sort o'.vars frees' (new_var v) k.0 are (r.vars v h ∙ k.1)))

  pub valid_before : Valid o' → Valid o
  unfolding forward
  valid_before valid frees are given =
      let values = forward_keeps frees are in
      let held = transport⁻¹ (same_given frees (forward frees) values) (recursion_from_All (λ a. Holds frees (calls_of frees o.defs) a []) o.axioms given) in
      transport (same_goal frees (forward frees) values)
      (valid (forward frees) (filled_are o'.vars _) (All-from_recursion (λ a. Holds (forward frees) (calls_of (forward frees) o'.defs) a []) o'.axioms held))

  pub valid_after : Valid o → Valid o'
  unfolding backward
  valid_after valid frees' are given =
      let values = backward_keeps frees' are in
      let held = transport (same_given (backward frees') frees' values) (recursion_from_All (λ a. Holds frees' (calls_of frees' o'.defs) a []) o'.axioms given) in
      transport⁻¹ (same_goal (backward frees') frees' values)
      (valid (backward frees') (filled_are o.vars _) (All-from_recursion (λ a. Holds (backward frees') (calls_of (backward frees') o.defs) a []) o.axioms held))

pub renaming_keeps_validity : RenamingKeepsValidity
renaming_keeps_validity new_def new_var defs? vars? o o' r = (valid_after new_def new_var defs? vars? o o' r, valid_before new_def new_var defs? vars? o o' r)
