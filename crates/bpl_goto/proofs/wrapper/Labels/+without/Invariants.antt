use Rattle.std.proofs.Common.{◌≡◌, ◌+◌, ◌*◌, ◌≤◌, drop}
use Rattle.bpl_model.specs.Module.{no_stmts}
use Rattle.bpl_model.specs.Nodes.{stmt_nodes, stmts_nodes}
use Rattle.bpl_model.specs.StmtView.{stmts_of}
use Rattle.bpl_goto.specs.Removed.{list_without}
use Rattle.bpl_goto.proofs.wrapper.Labels.+without.Given as goal

abbrev pub decreases-stmt_without : goal.decreases-stmt_without
decreases-stmt_without l = 2 * stmt_nodes l.stmt.now

abbrev pub decreases-list_without : goal.decreases-list_without
decreases-list_without l = 2 * stmts_nodes (stmts_of l.stmts.now) + 1

abbrev pub invariant-list_without-loop-stmt : goal.invariant-list_without-loop-stmt
invariant-list_without-loop-stmt l = record {
  same : list_without l.self.named l.self.longest (stmts_of l.done.items) (stmts_of (drop l.stmt-index l.stmts)) ≡ list_without l.self.named l.self.longest no_stmts (stmts_of l.stmts);
  less : stmts_nodes (stmts_of (drop l.stmt-index l.stmts)) ≤ stmts_nodes (stmts_of l.stmts);
}
