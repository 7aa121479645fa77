use Rattle.std.proofs.Common.{◌≡◌, ◌+◌, ◌*◌, ◌≤◌, drop, take, map}
use Rattle.bpl_ast.specs.StmtView.{action_of as action_tree, stmts_of as stmts_tree, branches_of, last_of}
use Rattle.bpl_faults.specs.ScopeView.{scope_seen}
use Rattle.bpl_resolve.specs.Elaborate.{stmt_of}
use Rattle.bpl_resolve.specs.Weights.{stmt_weight, action_weight, branches_weight, stmts_weight}
use Rattle.bpl_resolve.proofs.stmts.+stmts.Given as goal

abbrev pub decreases-stmts_of : goal.decreases-stmts_of
decreases-stmts_of l = 8 * stmts_weight (stmts_tree l.stmts.now) + 3

abbrev pub decreases-stmt_of : goal.decreases-stmt_of
decreases-stmt_of l = 8 * stmt_weight l.stmt.now + 2

abbrev pub decreases-action_of : goal.decreases-action_of
decreases-action_of l = 8 * action_weight (action_tree l.form.now) + 1

abbrev pub decreases-chain_of : goal.decreases-chain_of
decreases-chain_of l = 8 * branches_weight (branches_of l.branches.now (last_of l.last.now)) + 7

abbrev pub decreases-others_of : goal.decreases-others_of
decreases-others_of l = 8 * branches_weight (branches_of l.branches.now (last_of l.last.now)) + 6

abbrev pub decreases-branch_of : goal.decreases-branch_of
decreases-branch_of l = 8 * stmts_weight (stmts_tree l.branch.now.body.items) + 4

abbrev pub decreases-block_of : goal.decreases-block_of
decreases-block_of l = 8 * branches_weight (last_of l.last.now) + 4

abbrev pub invariant-stmts_of-loop-stmt : goal.invariant-stmts_of-loop-stmt
invariant-stmts_of-loop-stmt l = record {
  made : l.found.items ≡ map (stmt_of (scope_seen l.scope)) (take l.stmt-index l.stmts);
  less : stmts_weight (stmts_tree (drop l.stmt-index l.stmts)) ≤ stmts_weight (stmts_tree l.stmts);
}
