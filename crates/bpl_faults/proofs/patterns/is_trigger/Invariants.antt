use Rattle.std.proofs.Common.{◌≡◌, drop}
use Rattle.std.specs.List.{list_all}
use Rattle.bpl_ast.specs.ExprView.{exprs_of}
use Rattle.bpl_faults.specs.ExprFaults.{any_mentions}
use Rattle.bpl_faults.specs.Arguments.{texts_seen}
use Rattle.bpl_faults.proofs.patterns.is_trigger.Given as goal

abbrev pub invariant-loop-variable : goal.invariant-loop-variable
invariant-loop-variable l = list_all (λ v. any_mentions v (exprs_of l.xs)) (texts_seen (drop l.variable-index l.variables)) ≡ list_all (λ v. any_mentions v (exprs_of l.xs)) (texts_seen l.variables)
