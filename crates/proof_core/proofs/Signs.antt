-- A number is below, at or above zero, as linear facts say it.
use Rattle.std.proofs.Common.{◌≡◌, ◌∙◌, refl, sym, ap, subst, ℤ, pos, negsuc, ◌+ℤ◌, ◌*ℤ◌, int_le, true, false, Some, List, [], arith}
use Rattle.std.proofs.lemmas.Int.{ints}
use Rattle.logic_core.specs.Tree.{Kind, int, Tree, num, linear, no_parts, part}
use Rattle.logic_core.specs.Value.{Value, whole, flag, int_of, same}
use Rattle.logic_core.specs.Def.{Def}
use Rattle.logic_core.specs.Sorts.{sort_of, are_ints}
use Rattle.logic_laws.proofs.Options.{when_true}
use Rattle.logic_laws.proofs.SumSorts.{one_more_int, at_most_sort}
use Rattle.logic_laws.proofs.FormulaSorts.{equal_sort}
use Rattle.logic_laws.proofs.SameValue.{equal_same}
use Rattle.proof_core.specs.Maps.{below_zero, at_zero, above_zero}
use Rattle.logic_core.specs.WellSorted.{IsFormula}
use Rattle.proof_core.proofs.Closed.{HoldsIn, Has, holds_by_value}
use Rattle.proof_core.proofs.Conditions.{at_test}

abbrev below : ℤ → ℤ
below n = ((negsuc 0 *ℤ n) +ℤ pos 0) +ℤ negsuc 0

abbrev above : ℤ → ℤ
above n = ((pos 1 *ℤ n) +ℤ pos 0) +ℤ negsuc 0

neither_zero : (n : ℤ) → int_le (pos 0) (below n) ≡ false → int_le (pos 0) (above n) ≡ false → n ≡ pos 0
neither_zero n b a = grind (arith, ints)

below_apart : (n : ℤ) → int_le (pos 0) (below n) ≡ true → ¬ (n ≡ pos 0)
below_apart n b e = let zero : int_le (pos 0) (below (pos 0)) ≡ true = subst (λ i. int_le (pos 0) (below i) ≡ true) e b in absurd (cc)

above_apart : (n : ℤ) → int_le (pos 0) (above n) ≡ true → ¬ (n ≡ pos 0)
above_apart n a e = let zero : int_le (pos 0) (above (pos 0)) ≡ true = subst (λ i. int_le (pos 0) (above i) ≡ true) e a in absurd (cc)

module _ (vars : List Kind) (defs : List Def) (d : Tree) (sort : sort_of vars defs [] d ≡ Some int) where
  shifted_sort : (k : ℤ) → sort_of vars defs [] (linear (part k d no_parts) (negsuc 0)) ≡ Some int
  shifted_sort k = when_true (are_ints vars defs [] (part k d no_parts)) (Some int) (one_more_int vars defs k d no_parts [] sort refl)

  pub below_formula : IsFormula vars defs (below_zero d)
  below_formula = at_most_sort vars defs (num (pos 0)) (linear (part (negsuc 0) d no_parts) (negsuc 0)) [] refl (shifted_sort (negsuc 0))

  pub zero_formula : IsFormula vars defs (at_zero d)
  zero_formula = equal_sort vars defs d (num (pos 0)) [] int sort refl

  pub above_formula : IsFormula vars defs (above_zero d)
  above_formula = at_most_sort vars defs (num (pos 0)) (linear (part (pos 1) d no_parts) (negsuc 0)) [] refl (shifted_sort (pos 1))

-- one of the three facts holds, and says whether the number is zero
pub by_sign : (defs : List Def) (frees : List Value) (d : Tree) (v : Value) → Has defs frees d v → whole (int_of v) ≡ v
    → (HoldsIn defs frees (below_zero d) → ¬ (int_of v ≡ pos 0) → ⊥) → (HoldsIn defs frees (at_zero d) → int_of v ≡ pos 0 → ⊥) → (HoldsIn defs frees (above_zero d) → ¬ (int_of v ≡ pos 0) → ⊥) → ⊥
by_sign defs frees d v g number no_below no_zero no_above = at_test (int_le (pos 0) (below (int_of v)))
    (λ b. no_below (holds_by_value defs frees (below_zero d) (flag (int_le (pos 0) (below (int_of v)))) (whole (pos 0), whole (below (int_of v)), refl, ((negsuc 0 *ℤ int_of v) +ℤ pos 0, (v, pos 0, g, refl, refl), refl), refl) b) (below_apart (int_of v) b))
    (λ not_b. at_test (int_le (pos 0) (above (int_of v)))
    (λ a. no_above (holds_by_value defs frees (above_zero d) (flag (int_le (pos 0) (above (int_of v)))) (whole (pos 0), whole (above (int_of v)), refl, ((pos 1 *ℤ int_of v) +ℤ pos 0, (v, pos 0, g, refl, refl), refl), refl) a) (above_apart (int_of v) a))
    (λ not_a. let zero : int_of v ≡ pos 0 = neither_zero (int_of v) not_b not_a in
    no_zero (holds_by_value defs frees (at_zero d) (flag (same v (whole (pos 0)))) (v, whole (pos 0), g, refl, refl) (equal_same v (whole (pos 0)) (sym number ∙ ap whole zero))) zero))
