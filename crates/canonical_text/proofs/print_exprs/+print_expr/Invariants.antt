use Rattle.std.proofs.Common.{◌+◌, ◌*◌, ◌≤◌, length}
use Rattle.bpl_ast.specs.Nodes.{nodes, inner_nodes, exprs_nodes, terms_nodes, indices_nodes, triggers_nodes, groups_nodes, clause_nodes}
use Rattle.bpl_ast.specs.Tree.{no_terms, no_indices}
use Rattle.bpl_ast.specs.ExprView.{exprs_of, term_of, terms_of, index_of, indices_of, triggers_of, clause_of, groups_of, node_of}
use Rattle.canonical_text.specs.Expression.{more_run, more_listed, terms, indices, triggers, more_groups}
use Rattle.canonical_text.specs.Glyph.{plain}
use Rattle.canonical_text.proofs.WrittenLines.{Leaves}
use Rattle.canonical_text.proofs.print_exprs.+print_expr.Given as goal

abbrev pub decreases-print_form : goal.decreases-print_form
decreases-print_form l = 8 * inner_nodes (node_of l.form.now)

abbrev pub decreases-print_operand : goal.decreases-print_operand
decreases-print_operand l = 8 * nodes l.x.now + 1

abbrev pub decreases-print_expr : goal.decreases-print_expr
decreases-print_expr l = 8 * nodes l.x.now + 2

abbrev pub decreases-print_run : goal.decreases-print_run
decreases-print_run l = 8 * exprs_nodes (exprs_of l.xs.now) + 4

abbrev pub decreases-print_more_run : goal.decreases-print_more_run
decreases-print_more_run l = 8 * exprs_nodes (exprs_of l.xs.now) + 3

abbrev pub decreases-print_listed : goal.decreases-print_listed
decreases-print_listed l = 8 * exprs_nodes (exprs_of l.xs.now) + 4

abbrev pub decreases-print_more_listed : goal.decreases-print_more_listed
decreases-print_more_listed l = 8 * exprs_nodes (exprs_of l.others.now) + 3

abbrev pub decreases-print_term : goal.decreases-print_term
decreases-print_term l = 8 * terms_nodes (term_of l.term.now no_terms) + 3

abbrev pub decreases-print_terms : goal.decreases-print_terms
decreases-print_terms l = 8 * terms_nodes (terms_of l.list.now) + 4

abbrev pub decreases-print_index : goal.decreases-print_index
decreases-print_index l = 8 * indices_nodes (index_of l.index.now no_indices) + 3

abbrev pub decreases-print_indices : goal.decreases-print_indices
decreases-print_indices l = 8 * indices_nodes (indices_of l.list.now) + 4

abbrev pub decreases-print_triggers : goal.decreases-print_triggers
decreases-print_triggers l = 8 * triggers_nodes (triggers_of l.list.now) + 5

abbrev pub decreases-print_where : goal.decreases-print_where
decreases-print_where l = 8 * clause_nodes (clause_of l.condition.now) + 3

abbrev pub decreases-print_group : goal.decreases-print_group
decreases-print_group l = 8 * clause_nodes (clause_of l.group.now.condition) + 4

abbrev pub decreases-print_groups : goal.decreases-print_groups
decreases-print_groups l = 8 * groups_nodes (groups_of l.list.now) + 6

abbrev pub decreases-print_more_groups : goal.decreases-print_more_groups
decreases-print_more_groups l = 8 * groups_nodes (groups_of l.others.now) + 5

abbrev pub invariant-print_more_run-loop-x : goal.invariant-print_more_run-loop-x
invariant-print_more_run-loop-x l = record {
  same : Leaves l.fn.line (more_run l.at l.inner (plain l.sign) l.next (exprs_of l.xs)) l.line (more_run l.at l.inner (plain l.sign) l.next (exprs_of l.rest));
  less : exprs_nodes (exprs_of l.rest) ≤ exprs_nodes (exprs_of l.xs);
}

abbrev pub decreases-print_more_run-loop-x : goal.decreases-print_more_run-loop-x
decreases-print_more_run-loop-x l = length l.rest

abbrev pub invariant-print_more_listed-loop-x : goal.invariant-print_more_listed-loop-x
invariant-print_more_listed-loop-x l = record {
  same : Leaves l.fn.line (more_listed (exprs_of l.others)) l.line (more_listed (exprs_of l.rest));
  less : exprs_nodes (exprs_of l.rest) ≤ exprs_nodes (exprs_of l.others);
}

abbrev pub invariant-print_terms-loop-term : goal.invariant-print_terms-loop-term
invariant-print_terms-loop-term l = record {
  same : Leaves l.fn.line (terms l.next (terms_of l.list)) l.line (terms l.next (terms_of l.rest));
  less : terms_nodes (terms_of l.rest) ≤ terms_nodes (terms_of l.list);
}

abbrev pub decreases-print_terms-loop-term : goal.decreases-print_terms-loop-term
decreases-print_terms-loop-term l = length l.rest

abbrev pub invariant-print_indices-loop-index : goal.invariant-print_indices-loop-index
invariant-print_indices-loop-index l = record {
  same : Leaves l.fn.line (indices (indices_of l.list)) l.line (indices (indices_of l.rest));
  less : indices_nodes (indices_of l.rest) ≤ indices_nodes (indices_of l.list);
}

abbrev pub invariant-print_triggers-loop-trigger : goal.invariant-print_triggers-loop-trigger
invariant-print_triggers-loop-trigger l = record {
  same : Leaves l.fn.line (triggers (triggers_of l.list)) l.line (triggers (triggers_of l.rest));
  less : triggers_nodes (triggers_of l.rest) ≤ triggers_nodes (triggers_of l.list);
}

abbrev pub invariant-print_more_groups-loop-group : goal.invariant-print_more_groups-loop-group
invariant-print_more_groups-loop-group l = record {
  same : Leaves l.fn.line (more_groups (groups_of l.others)) l.line (more_groups (groups_of l.rest));
  less : groups_nodes (groups_of l.rest) ≤ groups_nodes (groups_of l.others);
}

abbrev pub decreases-print_more_listed-loop-x : goal.decreases-print_more_listed-loop-x
decreases-print_more_listed-loop-x l = length l.rest

abbrev pub decreases-print_indices-loop-index : goal.decreases-print_indices-loop-index
decreases-print_indices-loop-index l = length l.rest

abbrev pub decreases-print_triggers-loop-trigger : goal.decreases-print_triggers-loop-trigger
decreases-print_triggers-loop-trigger l = length l.rest

abbrev pub decreases-print_more_groups-loop-group : goal.decreases-print_more_groups-loop-group
decreases-print_more_groups-loop-group l = length l.rest
