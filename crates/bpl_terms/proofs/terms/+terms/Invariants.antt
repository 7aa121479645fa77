use Rattle.std.proofs.Common.{◌≡◌, ◌+◌, ◌*◌, ◌≤◌, ◌++◌, [], ◌∷◌, drop, take}
use Rattle.bpl_ast.specs.Nodes.{nodes, exprs_nodes, terms_nodes, indices_nodes, triggers_nodes, groups_nodes}
use Rattle.bpl_ast.specs.ExprView.{exprs_of, terms_of, indices_of, triggers_of, groups_of}
use Rattle.logic_core.specs.View.{each_items}
use Rattle.bpl_faults.specs.ScopeView.{scope_seen}
use Rattle.bpl_terms.specs.Terms.{indexed_term}
use Rattle.bpl_terms.specs.TermParts.{each_term, each_part, each_pattern}
use Rattle.bpl_terms.proofs.terms.+terms.Given as goal

abbrev pub decreases-term_in : goal.decreases-term_in
decreases-term_in l = 8 * nodes l.x.now

abbrev pub decreases-terms_in : goal.decreases-terms_in
decreases-terms_in l = 8 * exprs_nodes (exprs_of l.xs.now) + 3

abbrev pub decreases-application : goal.decreases-application
decreases-application l = 8 * exprs_nodes (exprs_of l.arguments.now) + 5

abbrev pub decreases-choice : goal.decreases-choice
decreases-choice l = 8 * (nodes l.condition.now + nodes l.then_value.now + nodes l.else_value.now) + 5

abbrev pub decreases-minus : goal.decreases-minus
decreases-minus l = 8 * nodes l.x.now + 5

abbrev pub decreases-sum : goal.decreases-sum
decreases-sum l = 8 * (nodes l.first.now + terms_nodes (terms_of l.others.now)) + 5

abbrev pub decreases-part : goal.decreases-part
decreases-part l = 8 * terms_nodes (terms_of (l.part.now ∷ [])) + 2

abbrev pub decreases-push_parts : goal.decreases-push_parts
decreases-push_parts l = 8 * terms_nodes (terms_of l.others.now) + 3

abbrev pub decreases-at_index : goal.decreases-at_index
decreases-at_index l = 8 * indices_nodes (indices_of (l.index.now ∷ [])) + 2

abbrev pub decreases-indexed : goal.decreases-indexed
decreases-indexed l = 8 * indices_nodes (indices_of l.indices.now) + 3

abbrev pub decreases-quantified : goal.decreases-quantified
decreases-quantified l = 8 * (groups_nodes (groups_of l.groups.now) + triggers_nodes (triggers_of l.triggers.now) + nodes l.body.now) + 5

abbrev pub decreases-patterns : goal.decreases-patterns
decreases-patterns l = 8 * triggers_nodes (triggers_of l.triggers.now) + 4

abbrev pub invariant-terms_in-loop-x : goal.invariant-terms_in-loop-x
invariant-terms_in-loop-x l = record {
  made : l.terms.items ≡ each_term (scope_seen l.scope) l.in_old (take l.x-index l.xs);
  less : exprs_nodes (exprs_of (drop l.x-index l.xs)) ≤ exprs_nodes (exprs_of l.xs);
}

abbrev pub invariant-push_parts-loop-other : goal.invariant-push_parts-loop-other
invariant-push_parts-loop-other l = record {
  made : l.parts.items ≡ l.fn.parts.items ++ each_part (scope_seen l.scope) l.in_old (take l.other-index l.others);
  less : terms_nodes (terms_of (drop l.other-index l.others)) ≤ terms_nodes (terms_of l.others);
}

abbrev pub invariant-indexed-loop-index : goal.invariant-indexed-loop-index
invariant-indexed-loop-index l = record {
  made : indexed_term (scope_seen l.scope) l.in_old l.whole (indices_of (drop l.index-index l.indices)) ≡ indexed_term (scope_seen l.scope) l.in_old l.fn.map (indices_of l.indices);
  less : indices_nodes (indices_of (drop l.index-index l.indices)) ≤ indices_nodes (indices_of l.indices);
}

abbrev pub invariant-patterns-loop-trigger : goal.invariant-patterns-loop-trigger
invariant-patterns-loop-trigger l = record {
  made : each_items l.patterns.items ≡ each_pattern (scope_seen l.scope) l.in_old (take l.trigger-index l.triggers);
  less : triggers_nodes (triggers_of (drop l.trigger-index l.triggers)) ≤ triggers_nodes (triggers_of l.triggers);
}
