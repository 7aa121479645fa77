use Rattle.std.proofs.Common.{◌≡◌, ◌+◌, ◌*◌, ◌≤◌, drop, take}
use Rattle.bpl_model.specs.Nodes.{stmt_nodes, stmts_nodes}
use Rattle.bpl_model.specs.StmtView.{stmts_of}
use Rattle.bpl_model.proofs.+copy_stmt.Given as goal

abbrev pub decreases-stmt::Stmt::copy : goal.decreases-stmt::Stmt::copy
decreases-stmt::Stmt::copy l = 2 * stmt_nodes l.self.now

abbrev pub decreases-copy_stmts::copy_stmts : goal.decreases-copy_stmts::copy_stmts
decreases-copy_stmts::copy_stmts l = 2 * stmts_nodes (stmts_of l.stmts.now) + 1

abbrev pub invariant-copy_stmts::copy_stmts-loop-stmt : goal.invariant-copy_stmts::copy_stmts-loop-stmt
invariant-copy_stmts::copy_stmts-loop-stmt l = record {
  same : l.copies.items ≡ take l.stmt-index l.stmts;
  less : stmts_nodes (stmts_of (drop l.stmt-index l.stmts)) ≤ stmts_nodes (stmts_of l.stmts);
}
