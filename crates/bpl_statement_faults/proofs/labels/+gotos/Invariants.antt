use Rattle.std.proofs.Common.{◌≡◌, ◌+◌, ◌*◌, ◌≤◌, ◌++◌, drop}
use Rattle.bpl_ast.specs.Nodes.{stmt_nodes, branches_nodes, stmts_nodes}
use Rattle.bpl_ast.specs.Statement.{no_branch}
use Rattle.bpl_ast.specs.StmtView.{stmts_of, branches_of, last_of}
use Rattle.bpl_statement_faults.specs.StmtFaults.{goto_labels, branch_goto_labels}
use Rattle.bpl_statement_faults.proofs.labels.+gotos.Given as goal

abbrev pub decreases-push_gotos : goal.decreases-push_gotos
decreases-push_gotos l = 4 * stmts_nodes (stmts_of l.stmts.now) + 1

abbrev pub decreases-push_stmt_gotos : goal.decreases-push_stmt_gotos
decreases-push_stmt_gotos l = 4 * stmt_nodes l.stmt.now

abbrev pub decreases-push_branch_gotos : goal.decreases-push_branch_gotos
decreases-push_branch_gotos l = 4 * branches_nodes (branches_of l.branches.now no_branch) + 2

abbrev pub decreases-push_last_gotos : goal.decreases-push_last_gotos
decreases-push_last_gotos l = 4 * branches_nodes (last_of l.last.now) + 2

abbrev pub invariant-push_gotos-loop-stmt : goal.invariant-push_gotos-loop-stmt
invariant-push_gotos-loop-stmt l = record {
  same : l.found ++ goto_labels (stmts_of (drop l.stmt-index l.stmts)) ≡ l.fn.found ++ goto_labels (stmts_of l.stmts);
  less : stmts_nodes (stmts_of (drop l.stmt-index l.stmts)) ≤ stmts_nodes (stmts_of l.stmts);
}

abbrev pub invariant-push_branch_gotos-loop-branch : goal.invariant-push_branch_gotos-loop-branch
invariant-push_branch_gotos-loop-branch l = record {
  same : l.found ++ branch_goto_labels (branches_of (drop l.branch-index l.branches) no_branch) ≡ l.fn.found ++ branch_goto_labels (branches_of l.branches no_branch);
  less : branches_nodes (branches_of (drop l.branch-index l.branches) no_branch) ≤ branches_nodes (branches_of l.branches no_branch);
}
