use Rattle.std.proofs.Common.{◌≡◌, ◌+◌, ◌*◌, ◌≤◌, ◌++◌, length}
use Rattle.bpl_ast.specs.Nodes.{stmt_nodes, branches_nodes, stmts_nodes}
use Rattle.bpl_ast.specs.StmtView.{stmts_of, branches_of, last_of}
use Rattle.canonical_text.specs.Lines.{statements, others}
use Rattle.canonical_text.proofs.print_stmts.+print_stmt.Given as goal

abbrev pub decreases-print_stmt : goal.decreases-print_stmt
decreases-print_stmt l = 8 * stmt_nodes l.stmt.now

abbrev pub decreases-print_stmts : goal.decreases-print_stmts
decreases-print_stmts l = 8 * stmts_nodes (stmts_of l.list.now) + 1

abbrev pub decreases-print_block : goal.decreases-print_block
decreases-print_block l = 8 * stmts_nodes (stmts_of l.body.now) + 2

abbrev pub decreases-print_if : goal.decreases-print_if
decreases-print_if l = 8 * stmts_nodes (stmts_of l.branch.now.body.items) + 3

abbrev pub decreases-print_last : goal.decreases-print_last
decreases-print_last l = 8 * branches_nodes (last_of l.last.now) + 3

abbrev pub decreases-print_others : goal.decreases-print_others
decreases-print_others l = 8 * branches_nodes (branches_of l.branches.now (last_of l.last.now)) + 5

abbrev pub decreases-print_chain : goal.decreases-print_chain
decreases-print_chain l = 8 * branches_nodes (branches_of l.branches.now (last_of l.last.now)) + 6

abbrev pub invariant-print_stmts-loop-stmt : goal.invariant-print_stmts-loop-stmt
invariant-print_stmts-loop-stmt l = record {
  same : l.page ++ statements l.indent (stmts_of l.rest) ≡ l.fn.page ++ statements l.indent (stmts_of l.list);
  less : stmts_nodes (stmts_of l.rest) ≤ stmts_nodes (stmts_of l.list);
}

abbrev pub decreases-print_stmts-loop-stmt : goal.decreases-print_stmts-loop-stmt
decreases-print_stmts-loop-stmt l = length l.rest

abbrev pub invariant-print_others-loop-branch : goal.invariant-print_others-loop-branch
invariant-print_others-loop-branch l = record {
  same : l.page ++ others l.indent (branches_of l.rest (last_of l.last)) ≡ l.fn.page ++ others l.indent (branches_of l.branches (last_of l.last));
  less : branches_nodes (branches_of l.rest (last_of l.last)) ≤ branches_nodes (branches_of l.branches (last_of l.last));
}

abbrev pub decreases-print_others-loop-branch : goal.decreases-print_others-loop-branch
decreases-print_others-loop-branch l = length l.rest
