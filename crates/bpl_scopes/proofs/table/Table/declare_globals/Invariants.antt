use Rattle.std.proofs.Common.{◌≡◌, ◌++◌, ◌+◌, drop, length}
use Rattle.bpl_scopes.specs.Scopes.{a_global, typed_names, entries_from}
use Rattle.bpl_scopes.proofs.table.Table.declare_globals.Given as goal

abbrev pub invariant-loop-name : goal.invariant-loop-name
invariant-loop-name l = record {
  entries : l.self ++ entries_from a_global l.decl l.number (typed_names (drop l.name-index l.names) l.of) ≡ l.fn.self ++ entries_from a_global l.decl l.from (typed_names l.names l.of);
  counted : l.number + length (drop l.name-index l.names) ≡ l.from + length l.names;
}
