use Rattle.std.proofs.Common.{◌≡◌, ◌+◌, ◌*◌, ◌≤◌, ◌++◌, drop}
use Rattle.bpl_ast.specs.Nodes.{stmt_nodes, branches_nodes, stmts_nodes}
use Rattle.bpl_ast.specs.Statement.{no_branch}
use Rattle.bpl_ast.specs.StmtView.{stmts_of, branches_of, last_of}
use Rattle.bpl_faults.specs.Arguments.{names_seen}
use Rattle.bpl_statement_faults.specs.StmtFaults.{labels_of, branch_labels}
use Rattle.bpl_statement_faults.proofs.labels.+labels.Given as goal

abbrev pub decreases-push_labels : goal.decreases-push_labels
decreases-push_labels l = 4 * stmts_nodes (stmts_of l.stmts.now) + 1

abbrev pub decreases-push_stmt_labels : goal.decreases-push_stmt_labels
decreases-push_stmt_labels l = 4 * stmt_nodes l.stmt.now

abbrev pub decreases-push_branch_labels : goal.decreases-push_branch_labels
decreases-push_branch_labels l = 4 * branches_nodes (branches_of l.branches.now no_branch) + 2

abbrev pub decreases-push_last_labels : goal.decreases-push_last_labels
decreases-push_last_labels l = 4 * branches_nodes (last_of l.last.now) + 2

abbrev pub invariant-push_labels-loop-stmt : goal.invariant-push_labels-loop-stmt
invariant-push_labels-loop-stmt l = record {
  same : names_seen l.found.items ++ labels_of (stmts_of (drop l.stmt-index l.stmts)) ≡ names_seen l.fn.found.items ++ labels_of (stmts_of l.stmts);
  less : stmts_nodes (stmts_of (drop l.stmt-index l.stmts)) ≤ stmts_nodes (stmts_of l.stmts);
}

abbrev pub invariant-push_branch_labels-loop-branch : goal.invariant-push_branch_labels-loop-branch
invariant-push_branch_labels-loop-branch l = record {
  same : names_seen l.found.items ++ branch_labels (branches_of (drop l.branch-index l.branches) no_branch) ≡ names_seen l.fn.found.items ++ branch_labels (branches_of l.branches no_branch);
  less : branches_nodes (branches_of (drop l.branch-index l.branches) no_branch) ≤ branches_nodes (branches_of l.branches no_branch);
}
