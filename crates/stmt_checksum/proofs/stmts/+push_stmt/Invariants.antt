use Rattle.std.proofs.Common.{◌≡◌, ◌+◌, ◌*◌, ◌≤◌, ◌++◌, length}
use Rattle.bpl_ast.specs.Nodes.{stmt_nodes, branches_nodes, stmts_nodes}
use Rattle.bpl_ast.specs.StmtView.{stmts_of, branches_of, last_of}
use Rattle.bpl_dependencies.specs.AppliedView.{variables_seen}
use Rattle.stmt_checksum.specs.Parts.{statements_parts, others_parts}
use Rattle.stmt_checksum.proofs.stmts.+push_stmt.Given as goal

abbrev pub decreases-push_stmt : goal.decreases-push_stmt
decreases-push_stmt l = 8 * stmt_nodes l.stmt.now

abbrev pub decreases-push_stmts : goal.decreases-push_stmts
decreases-push_stmts l = 8 * stmts_nodes (stmts_of l.list.now) + 1

abbrev pub decreases-push_block : goal.decreases-push_block
decreases-push_block l = 8 * stmts_nodes (stmts_of l.body.now) + 2

abbrev pub decreases-push_if : goal.decreases-push_if
decreases-push_if l = 8 * stmts_nodes (stmts_of l.branch.now.body.items) + 3

abbrev pub decreases-push_last : goal.decreases-push_last
decreases-push_last l = 8 * branches_nodes (last_of l.last.now) + 3

abbrev pub decreases-push_others : goal.decreases-push_others
decreases-push_others l = 8 * branches_nodes (branches_of l.branches.now (last_of l.last.now)) + 5

abbrev pub decreases-push_chain : goal.decreases-push_chain
decreases-push_chain l = 8 * branches_nodes (branches_of l.branches.now (last_of l.last.now)) + 6

abbrev pub invariant-push_stmts-loop-stmt : goal.invariant-push_stmts-loop-stmt
invariant-push_stmts-loop-stmt l = record {
  same : l.parts ++ statements_parts (variables_seen l.variables) (stmts_of l.rest) ≡ l.fn.parts ++ statements_parts (variables_seen l.variables) (stmts_of l.list);
  less : stmts_nodes (stmts_of l.rest) ≤ stmts_nodes (stmts_of l.list);
}

abbrev pub decreases-push_stmts-loop-stmt : goal.decreases-push_stmts-loop-stmt
decreases-push_stmts-loop-stmt l = length l.rest

abbrev pub invariant-push_others-loop-branch : goal.invariant-push_others-loop-branch
invariant-push_others-loop-branch l = record {
  same : l.parts ++ others_parts (variables_seen l.variables) (branches_of l.rest (last_of l.last)) ≡ l.fn.parts ++ others_parts (variables_seen l.variables) (branches_of l.branches (last_of l.last));
  less : branches_nodes (branches_of l.rest (last_of l.last)) ≤ branches_nodes (branches_of l.branches (last_of l.last));
}

abbrev pub decreases-push_others-loop-branch : goal.decreases-push_others-loop-branch
decreases-push_others-loop-branch l = length l.rest
