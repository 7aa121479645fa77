use Rattle.std.proofs.Common.{◌≡◌, ◌++◌, ◌+◌, ◌*◌, ◌≤◌, drop}
use Rattle.bpl_model.specs.Nodes.{stmt_nodes, stmts_nodes}
use Rattle.bpl_model.specs.StmtView.{stmts_of}
use Rattle.vc_build.specs.Marks.{call_marks, list_marks}
use Rattle.vc_build.proofs.marks.+marks.Given as goal

abbrev pub decreases-push_stmt : goal.decreases-push_stmt
decreases-push_stmt l = 2 * stmt_nodes l.stmt.now

abbrev pub decreases-push_stmts : goal.decreases-push_stmts
decreases-push_stmts l = 2 * stmts_nodes (stmts_of l.stmts.now) + 1

-- the marks so far, and then those of the statements that are ahead
abbrev pub invariant-push_stmts-loop-stmt : goal.invariant-push_stmts-loop-stmt
invariant-push_stmts-loop-stmt l = record {
  same : l.marks.items ++ list_marks (call_marks l.parts) (stmts_of (drop l.stmt-index l.stmts)) ≡ l.fn.marks.items ++ list_marks (call_marks l.parts) (stmts_of l.stmts);
  less : stmts_nodes (stmts_of (drop l.stmt-index l.stmts)) ≤ stmts_nodes (stmts_of l.stmts);
}
