use Rattle.std.proofs.Common.{◌≡◌, ◌++◌, take}
use Rattle.bpl_ast.specs.ExprView.{groups_of}
use Rattle.bpl_scopes.specs.Scopes.{names_of, hidden_in}
use Rattle.bpl_scopes.specs.Sorts.{bounds_of}
use Rattle.bpl_scopes.specs.KnownSorts.{bounds_seen}
use Rattle.bpl_faults.specs.ScopeView.{scope_seen}
use Rattle.bpl_faults.proofs.scope.Scope.within.Given as goal

abbrev pub invariant-loop-bound : goal.invariant-loop-bound
invariant-loop-bound l = bounds_seen l.bounds.items ≡ bounds_of (scope_seen l.self).table (hidden_in (scope_seen l.self)) (names_of (groups_of l.groups)) ++ bounds_seen (take l.bound-index l.self.bounds.items)
