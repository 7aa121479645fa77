use Rattle.std.proofs.Common.{◌≡◌, ◌+◌, ◌*◌, ◌≤◌, ◌++◌, drop}
use Rattle.bpl_model.specs.Nodes.{stmt_nodes, stmts_nodes}
use Rattle.bpl_model.specs.StmtView.{stmts_of}
use Rattle.bpl_blocks.specs.Targets.{list_sets}
use Rattle.bpl_blocks.proofs.targets.+sets.Given as goal

abbrev pub decreases-push_sets : goal.decreases-push_sets
decreases-push_sets l = 2 * stmt_nodes l.stmt.now

abbrev pub decreases-push_list_sets : goal.decreases-push_list_sets
decreases-push_list_sets l = 2 * stmts_nodes (stmts_of l.stmts.now) + 1

-- the variables so far, and then those of the statements that are ahead
abbrev pub invariant-push_list_sets-loop-stmt : goal.invariant-push_list_sets-loop-stmt
invariant-push_list_sets-loop-stmt l = record {
  same : l.set.items ++ list_sets (stmts_of (drop l.stmt-index l.stmts)) ≡ l.fn.set.items ++ list_sets (stmts_of l.stmts);
  less : stmts_nodes (stmts_of (drop l.stmt-index l.stmts)) ≤ stmts_nodes (stmts_of l.stmts);
}
