use Rattle.std.proofs.Common.{◌≡◌, ◌++◌, drop}
use Rattle.bpl_ast.specs.ExprView.{exprs_of}
use Rattle.bpl_faults.specs.ScopeView.{scope_seen}
use Rattle.bpl_resolve.specs.Elaborate.{assignments}
use Rattle.bpl_resolve.proofs.targets.assignments.Given as goal

abbrev pub invariant-loop-target : goal.invariant-loop-target
invariant-loop-target l = l.found.items ++ assignments (scope_seen l.scope) (drop l.target-index l.targets) (exprs_of l.rest) ≡ assignments (scope_seen l.scope) l.targets (exprs_of l.values)
