use Rattle.std.proofs.Common.{◌≡◌, ◌+◌, ◌*◌, ◌≤◌, ◌++◌, drop}
use Rattle.bpl_ast.specs.Nodes.{ty_nodes, tys_nodes}
use Rattle.bpl_ast.specs.TypeView.{tys_of}
use Rattle.bpl_scopes.specs.Functions.{names_in_types}
use Rattle.bpl_dependencies.specs.AppliedView.{texts_seen}
use Rattle.bpl_dependencies.proofs.applied.Applied.+named.Given as goal

abbrev pub decreases-note_type : goal.decreases-note_type
decreases-note_type l = 2 * ty_nodes l.of.now

abbrev pub decreases-note_types : goal.decreases-note_types
decreases-note_types l = 2 * tys_nodes (tys_of l.types.now) + 1

abbrev pub invariant-note_types-loop-of : goal.invariant-note_types-loop-of
invariant-note_types-loop-of l = record {
  found : texts_seen l.self.names.items ++ names_in_types (tys_of (drop l.of-index l.types)) ≡ texts_seen l.fn.self.names.items ++ names_in_types (tys_of l.types);
  less : tys_nodes (tys_of (drop l.of-index l.types)) ≤ tys_nodes (tys_of l.types);
}
