use Rattle.std.proofs.Common.{◌≡◌, drop}
use Rattle.bpl_ast.specs.ExprView.{groups_of}
use Rattle.bpl_scopes.specs.Scopes.{hidden_in, names_of}
use Rattle.bpl_scopes.specs.Sorts.{all_known, sorts_of_names}
use Rattle.bpl_faults.specs.ScopeView.{scope_seen}
use Rattle.bpl_faults.proofs.scope.Scope.are_known.Given as goal

abbrev pub invariant-loop-group : goal.invariant-loop-group
invariant-loop-group l = all_known (sorts_of_names (scope_seen l.self).table (hidden_in (scope_seen l.self)) (names_of (groups_of (drop l.group-index l.groups)))) ≡ all_known (sorts_of_names (scope_seen l.self).table (hidden_in (scope_seen l.self)) (names_of (groups_of l.groups)))
