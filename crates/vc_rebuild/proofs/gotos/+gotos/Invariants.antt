use Rattle.std.proofs.Common.{◌≡◌, ◌+◌, ◌*◌, ◌≤◌, drop}
use Rattle.bpl_model.specs.Nodes.{stmt_nodes, stmts_nodes}
use Rattle.bpl_model.specs.StmtView.{stmts_of}
use Rattle.vc_rebuild.specs.Gotos.{have_goto}
use Rattle.vc_rebuild.proofs.gotos.+gotos.Given as goal

abbrev pub decreases-has_goto : goal.decreases-has_goto
decreases-has_goto l = 2 * stmt_nodes l.stmt.now

abbrev pub decreases-have_goto : goal.decreases-have_goto
decreases-have_goto l = 2 * stmts_nodes (stmts_of l.stmts.now) + 1

-- none in the statements so far
abbrev pub invariant-have_goto-loop-stmt : goal.invariant-have_goto-loop-stmt
invariant-have_goto-loop-stmt l = record {
  same : have_goto (stmts_of (drop l.stmt-index l.stmts)) ≡ have_goto (stmts_of l.stmts);
  less : stmts_nodes (stmts_of (drop l.stmt-index l.stmts)) ≤ stmts_nodes (stmts_of l.stmts);
}
