use Rattle.std.proofs.Common.{◌≡◌, ◌+◌, ◌*◌, ◌≤◌, ◌&&◌, [], ◌∷◌, drop}
use Rattle.bpl_ast.specs.Nodes.{nodes, exprs_nodes, terms_nodes, indices_nodes, triggers_nodes, groups_nodes}
use Rattle.bpl_ast.specs.ExprView.{exprs_of, terms_of, indices_of, triggers_of, groups_of}
use Rattle.bpl_scopes.specs.Fault.{earlier, first_fault}
use Rattle.bpl_scopes.specs.Shape.{kind_of, kind_seen}
use Rattle.bpl_scopes.specs.KnownSorts.{shapes_seen}
use Rattle.bpl_scopes.specs.Sorts.{sorts_in, all_are, are_same, are_ints, are_patterns, all_known, indices_sort}
use Rattle.bpl_faults.specs.ExprFaults.{operand_faults, argument_faults, term_faults, index_faults, trigger_faults, pattern_faults}
use Rattle.bpl_faults.specs.Arguments.{texts_seen}
use Rattle.bpl_faults.specs.ScopeView.{scope_seen}
use Rattle.bpl_faults.proofs.scope.Scope.+exprs.Given as goal

abbrev pub decreases-expr : goal.decreases-expr
decreases-expr l = 8 * nodes l.x.now

abbrev pub decreases-expr_as : goal.decreases-expr_as
decreases-expr_as l = 8 * nodes l.x.now + 1

abbrev pub decreases-operands : goal.decreases-operands
decreases-operands l = 8 * exprs_nodes (exprs_of l.xs.now) + 3

abbrev pub decreases-junction : goal.decreases-junction
decreases-junction l = 8 * exprs_nodes (exprs_of l.xs.now) + 5

abbrev pub decreases-product : goal.decreases-product
decreases-product l = 8 * exprs_nodes (exprs_of l.xs.now) + 5

abbrev pub decreases-negation : goal.decreases-negation
decreases-negation l = 8 * nodes l.x.now + 5

abbrev pub decreases-minus : goal.decreases-minus
decreases-minus l = 8 * nodes l.x.now + 5

abbrev pub decreases-choice : goal.decreases-choice
decreases-choice l = 8 * (nodes l.c.now + nodes l.x.now + nodes l.y.now) + 5

abbrev pub decreases-comparison : goal.decreases-comparison
decreases-comparison l = 8 * (nodes l.x.now + nodes l.y.now) + 5

abbrev pub decreases-sum : goal.decreases-sum
decreases-sum l = 8 * (nodes l.x.now + terms_nodes (terms_of l.terms.now)) + 5

abbrev pub decreases-term : goal.decreases-term
decreases-term l = 8 * terms_nodes (terms_of (l.term.now ∷ [])) + 2

abbrev pub decreases-terms : goal.decreases-terms
decreases-terms l = 8 * terms_nodes (terms_of l.terms.now) + 3

abbrev pub decreases-indexed : goal.decreases-indexed
decreases-indexed l = 8 * (nodes l.x.now + indices_nodes (indices_of l.indices.now)) + 5

abbrev pub decreases-index : goal.decreases-index
decreases-index l = 8 * indices_nodes (indices_of (l.index.now ∷ [])) + 2

abbrev pub decreases-indices : goal.decreases-indices
decreases-indices l = 8 * indices_nodes (indices_of l.indices.now) + 3

abbrev pub decreases-application : goal.decreases-application
decreases-application l = 8 * exprs_nodes (exprs_of l.xs.now) + 5

abbrev pub decreases-arguments : goal.decreases-arguments
decreases-arguments l = 8 * exprs_nodes (exprs_of l.xs.now) + 3

abbrev pub decreases-argument : goal.decreases-argument
decreases-argument l = 8 * nodes l.x.now + 2

abbrev pub decreases-quantified : goal.decreases-quantified
decreases-quantified l = 8 * (groups_nodes (groups_of l.groups.now) + triggers_nodes (triggers_of l.triggers.now) + nodes l.body.now) + 5

abbrev pub decreases-triggers : goal.decreases-triggers
decreases-triggers l = 8 * triggers_nodes (triggers_of l.triggers.now) + 4

abbrev pub decreases-patterns : goal.decreases-patterns
decreases-patterns l = 8 * exprs_nodes (exprs_of l.xs.now) + 3

abbrev pub invariant-operands-loop-x : goal.invariant-operands-loop-x
invariant-operands-loop-x l = record {
  found : earlier l.faults.first (first_fault (operand_faults (scope_seen l.self) l.is_formula (kind_of l.wanted) (exprs_of (drop l.x-index l.xs)))) ≡ earlier l.fn.faults.first (first_fault (operand_faults (scope_seen l.self) l.is_formula (kind_of l.wanted) (exprs_of l.xs)));
  sorts : (l.all && all_are (kind_of l.wanted) (sorts_in (scope_seen l.self) (exprs_of (drop l.x-index l.xs)))) ≡ all_are (kind_of l.wanted) (sorts_in (scope_seen l.self) (exprs_of l.xs));
  less : exprs_nodes (exprs_of (drop l.x-index l.xs)) ≤ exprs_nodes (exprs_of l.xs);
}

abbrev pub invariant-terms-loop-term : goal.invariant-terms-loop-term
invariant-terms-loop-term l = record {
  found : earlier l.faults.first (first_fault (term_faults (scope_seen l.self) (terms_of (drop l.term-index l.terms)))) ≡ earlier l.fn.faults.first (first_fault (term_faults (scope_seen l.self) (terms_of l.terms)));
  sorts : (l.all && are_ints (scope_seen l.self) (terms_of (drop l.term-index l.terms))) ≡ are_ints (scope_seen l.self) (terms_of l.terms);
  less : terms_nodes (terms_of (drop l.term-index l.terms)) ≤ terms_nodes (terms_of l.terms);
}

abbrev pub invariant-indices-loop-index : goal.invariant-indices-loop-index
invariant-indices-loop-index l = record {
  found : earlier l.faults.first (first_fault (index_faults (scope_seen l.self) l.at (kind_seen l.sort) (indices_of (drop l.index-index l.indices)))) ≡ earlier l.fn.faults.first (first_fault (index_faults (scope_seen l.self) l.at (kind_seen l.fn.map) (indices_of l.indices)));
  sorts : indices_sort (scope_seen l.self) (kind_seen l.sort) (indices_of (drop l.index-index l.indices)) ≡ indices_sort (scope_seen l.self) (kind_seen l.fn.map) (indices_of l.indices);
  less : indices_nodes (indices_of (drop l.index-index l.indices)) ≤ indices_nodes (indices_of l.indices);
}

abbrev pub invariant-arguments-loop-x : goal.invariant-arguments-loop-x
invariant-arguments-loop-x l = record {
  found : earlier l.faults.first (first_fault (argument_faults (scope_seen l.self) (shapes_seen l.rest) (exprs_of (drop l.x-index l.xs)))) ≡ earlier l.fn.faults.first (first_fault (argument_faults (scope_seen l.self) (shapes_seen l.fn.sorts) (exprs_of l.xs)));
  sorts : (l.all && are_same (shapes_seen l.rest) (sorts_in (scope_seen l.self) (exprs_of (drop l.x-index l.xs)))) ≡ are_same (shapes_seen l.fn.sorts) (sorts_in (scope_seen l.self) (exprs_of l.xs));
  less : exprs_nodes (exprs_of (drop l.x-index l.xs)) ≤ exprs_nodes (exprs_of l.xs);
}

abbrev pub invariant-triggers-loop-trigger : goal.invariant-triggers-loop-trigger
invariant-triggers-loop-trigger l = record {
  found : earlier l.faults.first (first_fault (trigger_faults (scope_seen l.self) (texts_seen l.variables) (triggers_of (drop l.trigger-index l.triggers)))) ≡ earlier l.fn.faults.first (first_fault (trigger_faults (scope_seen l.self) (texts_seen l.variables) (triggers_of l.triggers)));
  sorts : (l.all && are_patterns (scope_seen l.self) (triggers_of (drop l.trigger-index l.triggers))) ≡ are_patterns (scope_seen l.self) (triggers_of l.triggers);
  less : triggers_nodes (triggers_of (drop l.trigger-index l.triggers)) ≤ triggers_nodes (triggers_of l.triggers);
}

abbrev pub invariant-patterns-loop-x : goal.invariant-patterns-loop-x
invariant-patterns-loop-x l = record {
  found : earlier l.faults.first (first_fault (pattern_faults (scope_seen l.self) (exprs_of (drop l.x-index l.xs)))) ≡ earlier l.fn.faults.first (first_fault (pattern_faults (scope_seen l.self) (exprs_of l.xs)));
  sorts : (l.all && all_known (sorts_in (scope_seen l.self) (exprs_of (drop l.x-index l.xs)))) ≡ all_known (sorts_in (scope_seen l.self) (exprs_of l.xs));
  less : exprs_nodes (exprs_of (drop l.x-index l.xs)) ≤ exprs_nodes (exprs_of l.xs);
}
