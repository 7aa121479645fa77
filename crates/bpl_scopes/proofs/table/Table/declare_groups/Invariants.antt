use Rattle.std.proofs.Common.{◌≡◌, ◌++◌, ◌+◌, drop, length}
use Rattle.bpl_ast.specs.ExprView.{groups_of}
use Rattle.bpl_scopes.specs.Scopes.{a_global, names_of, entries_from}
use Rattle.bpl_scopes.proofs.table.Table.declare_groups.Given as goal

abbrev pub invariant-loop-group : goal.invariant-loop-group
invariant-loop-group l = record {
  entries : l.self ++ entries_from a_global l.decl l.number (names_of (groups_of (drop l.group-index l.groups))) ≡ l.fn.self ++ entries_from a_global l.decl l.from (names_of (groups_of l.groups));
  counted : l.number + length (names_of (groups_of (drop l.group-index l.groups))) ≡ l.from + length (names_of (groups_of l.groups));
}
