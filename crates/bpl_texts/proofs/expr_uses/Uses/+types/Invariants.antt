use Rattle.std.proofs.Common.{◌≡◌, ◌+◌, ◌*◌, ◌≤◌, ◌++◌, drop}
use Rattle.bpl_ast.specs.Nodes.{ty_nodes, tys_nodes}
use Rattle.bpl_ast.specs.TypeView.{tys_of}
use Rattle.bpl_texts.specs.Uses.{types_uses}
use Rattle.bpl_dependencies.specs.AppliedView.{texts_seen, variables_seen}
use Rattle.bpl_texts.proofs.expr_uses.Uses.+types.Given as goal

abbrev pub decreases-note_type : goal.decreases-note_type
decreases-note_type l = 2 * ty_nodes l.of.now

abbrev pub decreases-note_types : goal.decreases-note_types
decreases-note_types l = 2 * tys_nodes (tys_of l.types.now) + 1

abbrev pub invariant-note_types-loop-of : goal.invariant-note_types-loop-of
invariant-note_types-loop-of l = record {
  found : texts_seen l.self.names.items ++ types_uses (variables_seen l.variables) (tys_of (drop l.of-index l.types)) ≡ texts_seen l.fn.self.names.items ++ types_uses (variables_seen l.variables) (tys_of l.types);
  less : tys_nodes (tys_of (drop l.of-index l.types)) ≤ tys_nodes (tys_of l.types);
}
