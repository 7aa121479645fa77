-- The laws of sorts, as statements.
use Rattle.block_wp.specs.Sorted.{EquationsAreSorted, PassiveEquationsAreSorted}
use Rattle.block_wp.proofs.EquationsSorted.{obligation_sorted}
use Rattle.block_wp.proofs.PassiveSorted.{passive_is_sorted}
use Rattle.block_wp.proofs.PassiveObligations.{passive_rises, passive_obligation}

pub equations_are_sorted : EquationsAreSorted
equations_are_sorted g defs rises formulas definitions axioms a k at = obligation_sorted g defs rises formulas k at definitions axioms a

pub passive_equations_are_sorted : PassiveEquationsAreSorted
passive_equations_are_sorted defs vars g may = record {
  rises = passive_rises defs vars g may;
  formulas = passive_is_sorted defs vars g may;
  obligations = passive_obligation defs vars g may;
}
