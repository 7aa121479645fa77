use Rattle.std.proofs.Common.{◌≡◌, ◌+◌, ◌*◌, ◌≤◌, drop}
use Rattle.bpl_model.specs.Names.{with_names}
use Rattle.bpl_model.specs.Nodes.{stmt_nodes, stmts_nodes}
use Rattle.bpl_model.specs.StmtView.{stmts_of}
use Rattle.bpl_goto.specs.Labels.{named_within}
use Rattle.bpl_goto.proofs.labels.+named.Given as goal

abbrev pub decreases-put_named : goal.decreases-put_named
decreases-put_named l = 2 * stmt_nodes l.stmt.now

abbrev pub decreases-put_each_named : goal.decreases-put_each_named
decreases-put_each_named l = 2 * stmts_nodes (stmts_of l.stmts.now) + 1

abbrev pub invariant-put_each_named-loop-stmt : goal.invariant-put_each_named-loop-stmt
invariant-put_each_named-loop-stmt l = record {
  same : with_names l.names (named_within (stmts_of (drop l.stmt-index l.stmts))) ≡ with_names l.fn.names (named_within (stmts_of l.stmts));
  less : stmts_nodes (stmts_of (drop l.stmt-index l.stmts)) ≤ stmts_nodes (stmts_of l.stmts);
}
