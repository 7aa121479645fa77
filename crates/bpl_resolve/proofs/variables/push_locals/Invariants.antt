use Rattle.std.proofs.Common.{◌≡◌, ◌++◌, drop}
use Rattle.bpl_ast.specs.ExprView.{groups_of}
use Rattle.bpl_scopes.specs.KnownSorts.{hidden_seen}
use Rattle.bpl_faults.specs.ScopeView.{scope_seen}
use Rattle.bpl_resolve.specs.Locals.{locals_in}
use Rattle.bpl_resolve.proofs.variables.push_locals.Given as goal

abbrev pub invariant-loop-group : goal.invariant-loop-group
invariant-loop-group l = l.locals.items ++ locals_in (scope_seen l.scope) (hidden_seen l.hidden) (groups_of (drop l.group-index l.groups)) ≡ l.fn.locals.items ++ locals_in (scope_seen l.scope) (hidden_seen l.hidden) (groups_of l.groups)
