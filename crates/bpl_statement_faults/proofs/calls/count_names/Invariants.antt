use Rattle.std.proofs.Common.{◌≡◌, ◌+◌, drop, length}
use Rattle.bpl_ast.specs.ExprView.{groups_of}
use Rattle.bpl_scopes.specs.Scopes.{names_of}
use Rattle.bpl_statement_faults.proofs.calls.count_names.Given as goal

abbrev pub invariant-loop-group : goal.invariant-loop-group
invariant-loop-group l = l.count + length (names_of (groups_of (drop l.group-index l.groups))) ≡ length (names_of (groups_of l.groups))
