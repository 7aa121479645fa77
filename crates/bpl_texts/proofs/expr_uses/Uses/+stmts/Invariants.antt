use Rattle.std.proofs.Common.{◌≡◌, ◌+◌, ◌*◌, ◌≤◌, ◌++◌, drop}
use Rattle.bpl_ast.specs.Nodes.{stmt_nodes, branches_nodes, stmts_nodes}
use Rattle.bpl_ast.specs.StmtView.{stmts_of, branches_of, last_of}
use Rattle.bpl_ast.specs.Statement.{no_branch}
use Rattle.bpl_dependencies.specs.AppliedView.{texts_seen, variables_seen}
use Rattle.bpl_texts.specs.Uses.{stmts_uses, branches_uses}
use Rattle.bpl_texts.proofs.expr_uses.Uses.+stmts.Given as goal

abbrev pub decreases-note_stmt : goal.decreases-note_stmt
decreases-note_stmt l = 4 * stmt_nodes l.stmt.now

abbrev pub decreases-note_stmts : goal.decreases-note_stmts
decreases-note_stmts l = 4 * stmts_nodes (stmts_of l.stmts.now) + 1

abbrev pub decreases-note_if : goal.decreases-note_if
decreases-note_if l = 4 * branches_nodes (branches_of l.branches.now (last_of l.last.now)) + 3

abbrev pub decreases-note_branches : goal.decreases-note_branches
decreases-note_branches l = 4 * branches_nodes (branches_of l.branches.now no_branch) + 2

abbrev pub decreases-note_last : goal.decreases-note_last
decreases-note_last l = 4 * branches_nodes (last_of l.last.now) + 2

abbrev pub invariant-note_stmts-loop-stmt : goal.invariant-note_stmts-loop-stmt
invariant-note_stmts-loop-stmt l = record {
  found : texts_seen l.self.names.items ++ stmts_uses (variables_seen l.variables) (stmts_of (drop l.stmt-index l.stmts)) ≡ texts_seen l.fn.self.names.items ++ stmts_uses (variables_seen l.variables) (stmts_of l.stmts);
  less : stmts_nodes (stmts_of (drop l.stmt-index l.stmts)) ≤ stmts_nodes (stmts_of l.stmts);
}

abbrev pub invariant-note_branches-loop-branch : goal.invariant-note_branches-loop-branch
invariant-note_branches-loop-branch l = record {
  found : texts_seen l.self.names.items ++ branches_uses (variables_seen l.variables) (branches_of (drop l.branch-index l.branches) no_branch) ≡ texts_seen l.fn.self.names.items ++ branches_uses (variables_seen l.variables) (branches_of l.branches no_branch);
  less : branches_nodes (branches_of (drop l.branch-index l.branches) no_branch) ≤ branches_nodes (branches_of l.branches no_branch);
}
