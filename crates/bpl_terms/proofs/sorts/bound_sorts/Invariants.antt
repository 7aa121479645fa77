use Rattle.std.proofs.Common.{◌≡◌, ◌++◌, drop}
use Rattle.bpl_ast.specs.ExprView.{groups_of}
use Rattle.bpl_faults.specs.ScopeView.{scope_seen}
use Rattle.bpl_terms.specs.Terms.{bound_sorts}
use Rattle.bpl_terms.proofs.sorts.bound_sorts.Given as goal

abbrev pub invariant-loop-group : goal.invariant-loop-group
invariant-loop-group l = l.sorts.items ++ bound_sorts (scope_seen l.scope) (groups_of (drop l.group-index l.groups)) ≡ bound_sorts (scope_seen l.scope) (groups_of l.groups)
