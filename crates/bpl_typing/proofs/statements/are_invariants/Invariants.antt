use Rattle.std.proofs.Common.{◌≡◌, drop}
use Rattle.std.specs.List.{list_all}
use Rattle.bpl_model.specs.TypedTest.{is_formula}
use Rattle.bpl_typing.proofs.statements.are_invariants.Given as goal

abbrev pub invariant-loop-found : goal.invariant-loop-found
invariant-loop-found l = list_all (λ i. is_formula l.defs l.vars i.formula) (drop l.found-index l.invariants) ≡ list_all (λ i. is_formula l.defs l.vars i.formula) l.invariants
