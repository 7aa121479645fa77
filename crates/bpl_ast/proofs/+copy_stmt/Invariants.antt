use Rattle.std.proofs.Common.{◌≡◌, ◌+◌, ◌*◌, ◌≤◌, drop, take}
use Rattle.bpl_ast.specs.Nodes.{stmt_nodes, branches_nodes, stmts_nodes}
use Rattle.bpl_ast.specs.StmtView.{stmts_of, each_branch, branches_of, last_of}
use Rattle.bpl_ast.specs.Statement.{no_branch}
use Rattle.bpl_ast.proofs.+copy_stmt.Given as goal

abbrev pub decreases-stmt::Stmt::copy : goal.decreases-stmt::Stmt::copy
decreases-stmt::Stmt::copy l = 4 * stmt_nodes l.self.now

abbrev pub decreases-copy_stmts::copy_stmts : goal.decreases-copy_stmts::copy_stmts
decreases-copy_stmts::copy_stmts l = 4 * stmts_nodes (stmts_of l.stmts.now) + 1

abbrev pub decreases-copy_stmts::copy_branches : goal.decreases-copy_stmts::copy_branches
decreases-copy_stmts::copy_branches l = 4 * branches_nodes (branches_of l.branches.now no_branch) + 2

abbrev pub decreases-copy_stmts::copy_last : goal.decreases-copy_stmts::copy_last
decreases-copy_stmts::copy_last l = 4 * branches_nodes (last_of l.last.now) + 2

abbrev pub invariant-copy_stmts::copy_stmts-loop-stmt : goal.invariant-copy_stmts::copy_stmts-loop-stmt
invariant-copy_stmts::copy_stmts-loop-stmt l = record {
  same : l.copies.items ≡ take l.stmt-index l.stmts;
  less : stmts_nodes (stmts_of (drop l.stmt-index l.stmts)) ≤ stmts_nodes (stmts_of l.stmts);
}

abbrev pub invariant-copy_stmts::copy_branches-loop-branch : goal.invariant-copy_stmts::copy_branches-loop-branch
invariant-copy_stmts::copy_branches-loop-branch l = record {
  same : each_branch l.copies.items ≡ each_branch (take l.branch-index l.branches);
  less : branches_nodes (branches_of (drop l.branch-index l.branches) no_branch) ≤ branches_nodes (branches_of l.branches no_branch);
}
