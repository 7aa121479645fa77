use Rattle.std.proofs.Common.{◌+◌, ◌*◌, ◌≤◌, length}
use Rattle.bpl_ast.specs.Nodes.{ty_nodes, tys_nodes}
use Rattle.bpl_ast.specs.TypeView.{tys_of}
use Rattle.canonical_text.specs.Expression.{more_types}
use Rattle.canonical_text.proofs.WrittenLines.{Leaves}
use Rattle.canonical_text.proofs.print_types.+print_type.Given as goal

abbrev pub decreases-print_type : goal.decreases-print_type
decreases-print_type l = 4 * ty_nodes l.of.now

abbrev pub decreases-print_types : goal.decreases-print_types
decreases-print_types l = 4 * tys_nodes (tys_of l.list.now) + 2

abbrev pub decreases-print_more_types : goal.decreases-print_more_types
decreases-print_more_types l = 4 * tys_nodes (tys_of l.others.now) + 1

abbrev pub invariant-print_more_types-loop-of : goal.invariant-print_more_types-loop-of
invariant-print_more_types-loop-of l = record {
  same : Leaves l.fn.line (more_types (tys_of l.others)) l.line (more_types (tys_of l.rest));
  less : tys_nodes (tys_of l.rest) ≤ tys_nodes (tys_of l.others);
}

abbrev pub decreases-print_more_types-loop-of : goal.decreases-print_more_types-loop-of
decreases-print_more_types-loop-of l = length l.rest
