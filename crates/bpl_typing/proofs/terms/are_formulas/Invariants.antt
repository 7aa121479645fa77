use Rattle.std.proofs.Common.{◌≡◌, drop}
use Rattle.std.specs.List.{list_all}
use Rattle.bpl_model.specs.TypedTest.{is_formula}
use Rattle.bpl_typing.proofs.terms.are_formulas.Given as goal

abbrev pub invariant-loop-formula : goal.invariant-loop-formula
invariant-loop-formula l = list_all (is_formula l.defs l.vars) (drop l.formula-index l.formulas) ≡ list_all (is_formula l.defs l.vars) l.formulas
