use Rattle.std.proofs.Common.{◌≡◌, ◌++◌, drop}
use Rattle.bpl_ast.specs.ExprView.{groups_of}
use Rattle.bpl_faults.specs.ScopeView.{scope_seen}
use Rattle.bpl_resolve.specs.Locals.{globals_of}
use Rattle.bpl_resolve.proofs.globals.push_group_globals.Given as goal

abbrev pub invariant-loop-group : goal.invariant-loop-group
invariant-loop-group l = l.globals.items ++ globals_of (scope_seen l.scope) (groups_of (drop l.group-index l.groups)) ≡ l.fn.globals.items ++ globals_of (scope_seen l.scope) (groups_of l.groups)
