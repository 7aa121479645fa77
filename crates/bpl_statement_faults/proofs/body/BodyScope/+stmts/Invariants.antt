use Rattle.std.proofs.Common.{◌≡◌, ◌+◌, ◌*◌, ◌≤◌, ◌++◌, drop}
use Rattle.bpl_ast.specs.Nodes.{stmt_nodes, branches_nodes, stmts_nodes}
use Rattle.bpl_ast.specs.Statement.{no_branch}
use Rattle.bpl_ast.specs.StmtView.{stmts_of, branches_of, last_of}
use Rattle.bpl_scopes.specs.Fault.{earlier, first_fault}
use Rattle.bpl_statement_faults.specs.BodyView.{body_seen, position_seen}
use Rattle.bpl_statement_faults.specs.StmtFaults.{labels_of_list, stmts_faults, branches_faults}
use Rattle.bpl_statement_faults.proofs.body.BodyScope.+stmts.Given as goal

abbrev pub decreases-note_stmts : goal.decreases-note_stmts
decreases-note_stmts l = 8 * stmts_nodes (stmts_of l.stmts.now) + 3

abbrev pub decreases-note_stmt : goal.decreases-note_stmt
decreases-note_stmt l = 8 * stmt_nodes l.stmt.now + 2

abbrev pub decreases-note_if : goal.decreases-note_if
decreases-note_if l = 8 * branches_nodes (branches_of l.branches.now (last_of l.last.now)) + 7

abbrev pub decreases-note_branches : goal.decreases-note_branches
decreases-note_branches l = 8 * branches_nodes (branches_of l.branches.now no_branch) + 6

abbrev pub decreases-note_last : goal.decreases-note_last
decreases-note_last l = 8 * branches_nodes (last_of l.last.now) + 6

abbrev pub decreases-note_while : goal.decreases-note_while
decreases-note_while l = 8 * stmts_nodes (stmts_of l.body.now) + 9

abbrev pub decreases-note_loop_body : goal.decreases-note_loop_body
decreases-note_loop_body l = 8 * stmts_nodes (stmts_of l.body.now) + 7

abbrev pub invariant-note_stmts-loop-stmt : goal.invariant-note_stmts-loop-stmt
invariant-note_stmts-loop-stmt l = record {
  found : earlier l.faults.first (first_fault (stmts_faults (body_seen l.self) (position_seen l.in_loop l.fn.labels) (stmts_of (drop l.stmt-index l.stmts)))) ≡ earlier l.fn.faults.first (first_fault (stmts_faults (body_seen l.self) (position_seen l.in_loop l.fn.labels) (stmts_of l.stmts)));
  around : l.labels.around ≡ l.fn.labels.around;
  ahead : l.labels.ahead ≡ labels_of_list (stmts_of (drop l.stmt-index l.stmts)) ++ l.fn.labels.ahead;
  less : stmts_nodes (stmts_of (drop l.stmt-index l.stmts)) ≤ stmts_nodes (stmts_of l.stmts);
}

abbrev pub invariant-note_branches-loop-branch : goal.invariant-note_branches-loop-branch
invariant-note_branches-loop-branch l = record {
  found : earlier l.faults.first (first_fault (branches_faults (body_seen l.self) (position_seen l.in_loop l.fn.labels) (branches_of (drop l.branch-index l.branches) no_branch))) ≡ earlier l.fn.faults.first (first_fault (branches_faults (body_seen l.self) (position_seen l.in_loop l.fn.labels) (branches_of l.branches no_branch)));
  around : l.labels.around ≡ l.fn.labels.around;
  ahead : l.labels.ahead ≡ l.fn.labels.ahead;
  less : branches_nodes (branches_of (drop l.branch-index l.branches) no_branch) ≤ branches_nodes (branches_of l.branches no_branch);
}
