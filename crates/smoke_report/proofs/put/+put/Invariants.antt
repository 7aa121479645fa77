use Rattle.std.proofs.Common.{◌≡◌, ◌+◌, ◌-◌, ◌*◌, ◌≤◌, drop}
use Rattle.bpl_model.specs.Nodes.{stmt_nodes, stmts_nodes}
use Rattle.bpl_model.specs.StmtView.{stmts_of}
use Rattle.bpl_model.specs.Cut.{append}
use Rattle.smoke_report.specs.Put.{count_within, put_within}
use Rattle.smoke_report.proofs.put.+put.Given as goal

abbrev pub decreases-put_in : goal.decreases-put_in
decreases-put_in l = 4 * stmt_nodes l.stmt.now

abbrev pub decreases-put_within : goal.decreases-put_within
decreases-put_within l = 4 * stmts_nodes (stmts_of l.stmts.now) + 1

abbrev pub decreases-put_list : goal.decreases-put_list
decreases-put_list l = 4 * stmts_nodes (stmts_of l.stmts.now) + 2

abbrev pub decreases-put_beside : goal.decreases-put_beside
decreases-put_beside l = 4 * stmts_nodes (stmts_of l.stmts.now) + 3

abbrev pub invariant-put_within-loop-stmt : goal.invariant-put_within-loop-stmt
invariant-put_within-loop-stmt l = record {
  same : append (stmts_of l.put.items) (put_within l.mark l.left (stmts_of (drop l.stmt-index l.stmts))) ≡ put_within l.mark l.fn.left (stmts_of l.stmts);
  left : l.left - count_within (stmts_of (drop l.stmt-index l.stmts)) ≡ l.fn.left - count_within (stmts_of l.stmts);
  less : stmts_nodes (stmts_of (drop l.stmt-index l.stmts)) ≤ stmts_nodes (stmts_of l.stmts);
}
