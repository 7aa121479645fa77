use Rattle.std.proofs.Common.{◌≡◌, ◌+◌, ◌*◌, ◌≤◌, ◌++◌, drop, length}
use Rattle.bpl_model.specs.Nodes.{stmt_nodes, stmts_nodes}
use Rattle.bpl_model.specs.StmtView.{stmts_of}
use Rattle.smoke_report.specs.Points.{points_within}
use Rattle.smoke_report.proofs.proc_points.+points.Given as goal

abbrev pub decreases-add_in : goal.decreases-add_in
decreases-add_in l = 3 * stmt_nodes l.stmt.now

abbrev pub decreases-add_within : goal.decreases-add_within
decreases-add_within l = 3 * stmts_nodes (stmts_of l.stmts.now) + 1

abbrev pub decreases-add_beside : goal.decreases-add_beside
decreases-add_beside l = 3 * stmts_nodes (stmts_of l.stmts.now) + 2

abbrev pub invariant-add_within-loop-stmt : goal.invariant-add_within-loop-stmt
invariant-add_within-loop-stmt l = record {
  same : l.spots.items ++ points_within l.chain (stmts_of (drop l.stmt-index l.stmts)) ≡ l.fn.spots.items ++ points_within l.chain (stmts_of l.stmts);
  grown : length l.fn.spots.items ≤ length l.spots.items;
  less : stmts_nodes (stmts_of (drop l.stmt-index l.stmts)) ≤ stmts_nodes (stmts_of l.stmts);
}
