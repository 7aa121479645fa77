use Rattle.std.proofs.Common.{◌≡◌, ◌+◌, ◌*◌, ◌≤◌, max, drop}
use Rattle.bpl_model.specs.Nodes.{stmt_nodes, stmts_nodes}
use Rattle.bpl_model.specs.StmtView.{stmts_of}
use Rattle.bpl_goto.specs.Labels.{labels_within, longest}
use Rattle.bpl_goto.proofs.labels.+longest.Given as goal

abbrev pub decreases-longest_in : goal.decreases-longest_in
decreases-longest_in l = 2 * stmt_nodes l.stmt.now

abbrev pub decreases-longest_within : goal.decreases-longest_within
decreases-longest_within l = 2 * stmts_nodes (stmts_of l.stmts.now) + 1

abbrev pub invariant-longest_within-loop-stmt : goal.invariant-longest_within-loop-stmt
invariant-longest_within-loop-stmt l = record {
  same : max l.most (longest (labels_within (stmts_of (drop l.stmt-index l.stmts)))) ≡ longest (labels_within (stmts_of l.stmts));
  less : stmts_nodes (stmts_of (drop l.stmt-index l.stmts)) ≤ stmts_nodes (stmts_of l.stmts);
}
