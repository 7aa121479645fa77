use Rattle.std.proofs.Common.{◌≡◌, ◌+◌, ◌*◌, ◌≤◌, drop, take}
use Rattle.bpl_ast.specs.Nodes.{ty_nodes, tys_nodes}
use Rattle.bpl_ast.specs.TypeView.{tys_of}
use Rattle.bpl_ast.proofs.+copy_type.Given as goal

abbrev pub decreases-types::Type::copy : goal.decreases-types::Type::copy
decreases-types::Type::copy l = 4 * ty_nodes l.self.now

abbrev pub decreases-copy_names::copy_boxed_type : goal.decreases-copy_names::copy_boxed_type
decreases-copy_names::copy_boxed_type l = 4 * ty_nodes l.of.now + 1

abbrev pub decreases-copy_names::copy_types : goal.decreases-copy_names::copy_types
decreases-copy_names::copy_types l = 4 * tys_nodes (tys_of l.types.now) + 1

abbrev pub invariant-copy_names::copy_types-loop-of : goal.invariant-copy_names::copy_types-loop-of
invariant-copy_names::copy_types-loop-of l = record {
  same : l.copies.items ≡ take l.of-index l.types;
  less : tys_nodes (tys_of (drop l.of-index l.types)) ≤ tys_nodes (tys_of l.types);
}
