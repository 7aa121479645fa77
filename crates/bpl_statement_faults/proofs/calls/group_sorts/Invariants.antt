use Rattle.std.proofs.Common.{◌≡◌, ◌++◌, drop}
use Rattle.bpl_ast.specs.ExprView.{groups_of}
use Rattle.bpl_scopes.specs.Scopes.{names_of}
use Rattle.bpl_scopes.specs.Sorts.{sorts_of_names}
use Rattle.bpl_scopes.specs.KnownSorts.{shapes_seen, hidden_seen}
use Rattle.bpl_statement_faults.proofs.calls.group_sorts.Given as goal

abbrev pub invariant-loop-group : goal.invariant-loop-group
invariant-loop-group l = shapes_seen l.sorts.items ++ sorts_of_names l.types (hidden_seen l.hidden) (names_of (groups_of (drop l.group-index l.groups))) ≡ sorts_of_names l.types (hidden_seen l.hidden) (names_of (groups_of l.groups))
