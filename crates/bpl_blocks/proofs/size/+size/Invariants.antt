use Rattle.std.proofs.Common.{◌≡◌, ◌+◌, ◌*◌, ◌≤◌, drop}
use Rattle.bpl_model.specs.Nodes.{stmt_nodes, stmts_nodes}
use Rattle.bpl_model.specs.StmtView.{stmts_of}
use Rattle.bpl_blocks.specs.Targets.{list_size}
use Rattle.bpl_blocks.proofs.size.+size.Given as goal

abbrev pub decreases-size : goal.decreases-size
decreases-size l = 2 * stmt_nodes l.stmt.now

abbrev pub decreases-list_size : goal.decreases-list_size
decreases-list_size l = 2 * stmts_nodes (stmts_of l.stmts.now) + 1

-- the blocks so far, and then those of the statements that are ahead
abbrev pub invariant-list_size-loop-stmt : goal.invariant-list_size-loop-stmt
invariant-list_size-loop-stmt l = record {
  same : l.total + list_size (stmts_of (drop l.stmt-index l.stmts)) ≡ list_size (stmts_of l.stmts);
  less : stmts_nodes (stmts_of (drop l.stmt-index l.stmts)) ≤ stmts_nodes (stmts_of l.stmts);
}
