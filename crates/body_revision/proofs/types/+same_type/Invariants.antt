use Rattle.std.proofs.Common.{◌≡◌, ◌+◌, ◌*◌, ◌≤◌, drop, take}
use Rattle.bpl_ast.specs.Nodes.{ty_nodes, tys_nodes}
use Rattle.bpl_ast.specs.TypeView.{tys_of}
use Rattle.body_revision.proofs.types.+same_type.Given as goal

abbrev pub decreases-same_type : goal.decreases-same_type
decreases-same_type l = 4 * ty_nodes l.mine.now

abbrev pub decreases-same_types : goal.decreases-same_types
decreases-same_types l = 4 * tys_nodes (tys_of l.mine.now) + 1

abbrev pub invariant-same_types-loop-i : goal.invariant-same_types-loop-i
invariant-same_types-loop-i l = record {
  same : take l.i l.mine ≡ take l.i l.theirs;
  less : tys_nodes (tys_of (drop l.i l.mine)) ≤ tys_nodes (tys_of l.mine);
}
