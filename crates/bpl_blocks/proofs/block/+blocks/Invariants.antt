use Rattle.std.proofs.Common.{◌≡◌, ◌+◌, ◌*◌, ◌≤◌, drop}
use Rattle.bpl_model.specs.Nodes.{stmt_nodes, stmts_nodes}
use Rattle.bpl_model.specs.StmtView.{stmts_of}
use Rattle.bpl_blocks.specs.Drawn.{with_list}
use Rattle.bpl_blocks.proofs.block.+blocks.Given as goal

abbrev pub decreases-draw_stmt : goal.decreases-draw_stmt
decreases-draw_stmt l = 4 * stmt_nodes l.stmt.now

abbrev pub decreases-draw_if : goal.decreases-draw_if
decreases-draw_if l = 4 * stmts_nodes (stmts_of l.first.now) + 4 * stmts_nodes (stmts_of l.second.now) + 3

abbrev pub decreases-draw_while : goal.decreases-draw_while
decreases-draw_while l = 4 * stmts_nodes (stmts_of l.body.now) + 3

abbrev pub decreases-draw_branch : goal.decreases-draw_branch
decreases-draw_branch l = 4 * stmts_nodes (stmts_of l.stmts.now) + 2

abbrev pub decreases-draw_list : goal.decreases-draw_list
decreases-draw_list l = 4 * stmts_nodes (stmts_of l.stmts.now) + 1

-- what is drawn so far, and then the statements that are ahead
abbrev pub invariant-draw_list-loop-stmt : goal.invariant-draw_list-loop-stmt
invariant-draw_list-loop-stmt l = record {
  drawn : with_list l.setting l.scopes l.drawn (stmts_of (drop l.stmt-index l.stmts)) ≡ with_list l.setting l.fn.scopes l.fn.drawn (stmts_of l.stmts);
  scopes : l.scopes ≡ l.fn.scopes;
  less : stmts_nodes (stmts_of (drop l.stmt-index l.stmts)) ≤ stmts_nodes (stmts_of l.stmts);
}
