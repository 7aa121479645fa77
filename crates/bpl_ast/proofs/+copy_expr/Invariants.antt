use Rattle.std.proofs.Common.{◌≡◌, ◌+◌, ◌*◌, ◌≤◌, drop, take}
use Rattle.bpl_ast.specs.Nodes.{nodes, exprs_nodes, terms_nodes, indices_nodes, triggers_nodes, groups_nodes, clause_nodes}
use Rattle.bpl_ast.specs.ExprView.{exprs_of, term_of, terms_of, index_of, indices_of, each_trigger, triggers_of, each_group, clause_of, groups_of}
use Rattle.bpl_ast.specs.Tree.{no_terms, no_indices}
use Rattle.bpl_ast.proofs.+copy_expr.Given as goal

abbrev pub decreases-expr::Expr::copy : goal.decreases-expr::Expr::copy
decreases-expr::Expr::copy l = 8 * nodes l.self.now

abbrev pub decreases-copy_exprs::copy_boxed_expr : goal.decreases-copy_exprs::copy_boxed_expr
decreases-copy_exprs::copy_boxed_expr l = 8 * nodes l.x.now + 1

abbrev pub decreases-copy_exprs::copy_exprs : goal.decreases-copy_exprs::copy_exprs
decreases-copy_exprs::copy_exprs l = 8 * exprs_nodes (exprs_of l.exprs.now) + 1

abbrev pub decreases-copy_exprs::copy_term : goal.decreases-copy_exprs::copy_term
decreases-copy_exprs::copy_term l = 8 * terms_nodes (term_of l.term.now no_terms) + 1

abbrev pub decreases-copy_exprs::copy_terms : goal.decreases-copy_exprs::copy_terms
decreases-copy_exprs::copy_terms l = 8 * terms_nodes (terms_of l.terms.now) + 2

abbrev pub decreases-copy_exprs::copy_index : goal.decreases-copy_exprs::copy_index
decreases-copy_exprs::copy_index l = 8 * indices_nodes (index_of l.index.now no_indices) + 1

abbrev pub decreases-copy_exprs::copy_indices : goal.decreases-copy_exprs::copy_indices
decreases-copy_exprs::copy_indices l = 8 * indices_nodes (indices_of l.indices.now) + 2

abbrev pub decreases-copy_exprs::copy_triggers : goal.decreases-copy_exprs::copy_triggers
decreases-copy_exprs::copy_triggers l = 8 * triggers_nodes (triggers_of l.triggers.now) + 2

abbrev pub decreases-copy_exprs::copy_where : goal.decreases-copy_exprs::copy_where
decreases-copy_exprs::copy_where l = 8 * clause_nodes (clause_of l.condition.now) + 1

abbrev pub decreases-copy_exprs::copy_groups : goal.decreases-copy_exprs::copy_groups
decreases-copy_exprs::copy_groups l = 8 * groups_nodes (groups_of l.groups.now) + 2

abbrev pub invariant-copy_exprs::copy_exprs-loop-x : goal.invariant-copy_exprs::copy_exprs-loop-x
invariant-copy_exprs::copy_exprs-loop-x l = record {
  same : l.copies.items ≡ take l.x-index l.exprs;
  less : exprs_nodes (exprs_of (drop l.x-index l.exprs)) ≤ exprs_nodes (exprs_of l.exprs);
}

abbrev pub invariant-copy_exprs::copy_terms-loop-term : goal.invariant-copy_exprs::copy_terms-loop-term
invariant-copy_exprs::copy_terms-loop-term l = record {
  same : l.copies.items ≡ take l.term-index l.terms;
  less : terms_nodes (terms_of (drop l.term-index l.terms)) ≤ terms_nodes (terms_of l.terms);
}

abbrev pub invariant-copy_exprs::copy_indices-loop-index : goal.invariant-copy_exprs::copy_indices-loop-index
invariant-copy_exprs::copy_indices-loop-index l = record {
  same : l.copies.items ≡ take l.index-index l.indices;
  less : indices_nodes (indices_of (drop l.index-index l.indices)) ≤ indices_nodes (indices_of l.indices);
}

abbrev pub invariant-copy_exprs::copy_triggers-loop-trigger : goal.invariant-copy_exprs::copy_triggers-loop-trigger
invariant-copy_exprs::copy_triggers-loop-trigger l = record {
  same : each_trigger l.copies.items ≡ each_trigger (take l.trigger-index l.triggers);
  less : triggers_nodes (triggers_of (drop l.trigger-index l.triggers)) ≤ triggers_nodes (triggers_of l.triggers);
}

abbrev pub invariant-copy_exprs::copy_groups-loop-group : goal.invariant-copy_exprs::copy_groups-loop-group
invariant-copy_exprs::copy_groups-loop-group l = record {
  same : each_group l.copies.items ≡ each_group (take l.group-index l.groups);
  less : groups_nodes (groups_of (drop l.group-index l.groups)) ≤ groups_nodes (groups_of l.groups);
}
