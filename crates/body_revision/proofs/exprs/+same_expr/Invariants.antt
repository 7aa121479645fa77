use Rattle.std.proofs.Common.{◌≡◌, ◌+◌, ◌*◌, ◌≤◌, drop, take}
use Rattle.bpl_ast.specs.Nodes.{nodes, inner_nodes, exprs_nodes, terms_nodes, indices_nodes, triggers_nodes, groups_nodes, clause_nodes}
use Rattle.bpl_ast.specs.ExprView.{node_of, exprs_of, term_of, terms_of, index_of, indices_of, each_trigger, triggers_of, each_group, clause_of, groups_of}
use Rattle.bpl_ast.specs.Tree.{no_terms, no_indices}
use Rattle.body_revision.proofs.exprs.+same_expr.Given as goal

abbrev pub decreases-same_expr : goal.decreases-same_expr
decreases-same_expr l = 8 * nodes l.mine.now + 1

abbrev pub decreases-same_form : goal.decreases-same_form
decreases-same_form l = 8 * inner_nodes (node_of l.mine.now)

abbrev pub decreases-same_exprs : goal.decreases-same_exprs
decreases-same_exprs l = 8 * exprs_nodes (exprs_of l.mine.now) + 2

abbrev pub decreases-same_term : goal.decreases-same_term
decreases-same_term l = 8 * terms_nodes (term_of l.mine.now no_terms) + 2

abbrev pub decreases-same_terms : goal.decreases-same_terms
decreases-same_terms l = 8 * terms_nodes (terms_of l.mine.now) + 3

abbrev pub decreases-same_index : goal.decreases-same_index
decreases-same_index l = 8 * indices_nodes (index_of l.mine.now no_indices) + 2

abbrev pub decreases-same_indices : goal.decreases-same_indices
decreases-same_indices l = 8 * indices_nodes (indices_of l.mine.now) + 3

abbrev pub decreases-same_trigger : goal.decreases-same_trigger
decreases-same_trigger l = 8 * exprs_nodes (exprs_of l.mine.now.patterns.items) + 3

abbrev pub decreases-same_triggers : goal.decreases-same_triggers
decreases-same_triggers l = 8 * triggers_nodes (triggers_of l.mine.now) + 4

abbrev pub decreases-same_where : goal.decreases-same_where
decreases-same_where l = 8 * clause_nodes (clause_of l.mine.now) + 2

abbrev pub decreases-same_group : goal.decreases-same_group
decreases-same_group l = 8 * clause_nodes (clause_of l.mine.now.condition) + 3

abbrev pub decreases-same_groups : goal.decreases-same_groups
decreases-same_groups l = 8 * groups_nodes (groups_of l.mine.now) + 4

abbrev pub invariant-same_exprs-loop-i : goal.invariant-same_exprs-loop-i
invariant-same_exprs-loop-i l = record {
  same : take l.i l.mine ≡ take l.i l.theirs;
  less : exprs_nodes (exprs_of (drop l.i l.mine)) ≤ exprs_nodes (exprs_of l.mine);
}

abbrev pub invariant-same_terms-loop-i : goal.invariant-same_terms-loop-i
invariant-same_terms-loop-i l = record {
  same : take l.i l.mine ≡ take l.i l.theirs;
  less : terms_nodes (terms_of (drop l.i l.mine)) ≤ terms_nodes (terms_of l.mine);
}

abbrev pub invariant-same_indices-loop-i : goal.invariant-same_indices-loop-i
invariant-same_indices-loop-i l = record {
  same : take l.i l.mine ≡ take l.i l.theirs;
  less : indices_nodes (indices_of (drop l.i l.mine)) ≤ indices_nodes (indices_of l.mine);
}

abbrev pub invariant-same_triggers-loop-i : goal.invariant-same_triggers-loop-i
invariant-same_triggers-loop-i l = record {
  same : each_trigger (take l.i l.mine) ≡ each_trigger (take l.i l.theirs);
  less : triggers_nodes (triggers_of (drop l.i l.mine)) ≤ triggers_nodes (triggers_of l.mine);
}

abbrev pub invariant-same_groups-loop-i : goal.invariant-same_groups-loop-i
invariant-same_groups-loop-i l = record {
  same : each_group (take l.i l.mine) ≡ each_group (take l.i l.theirs);
  less : groups_nodes (groups_of (drop l.i l.mine)) ≤ groups_nodes (groups_of l.mine);
}
