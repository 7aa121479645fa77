use Rattle.std.proofs.Common.{◌≡◌, drop}
use Rattle.std.specs.List.{list_all}
use Rattle.bpl_model.specs.TypedTest.{is_formula_or_none}
use Rattle.bpl_typing.proofs.parts.are_clauses.Given as goal

abbrev pub invariant-loop-global : goal.invariant-loop-global
invariant-loop-global l = list_all (λ g. is_formula_or_none l.defs l.vars g.clause) (drop l.global-index l.globals) ≡ list_all (λ g. is_formula_or_none l.defs l.vars g.clause) l.globals
