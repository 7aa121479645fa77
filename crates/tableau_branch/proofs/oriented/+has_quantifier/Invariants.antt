use Rattle.std.proofs.Common.{◌≡◌, ◌+◌, ◌*◌, ◌≤◌, drop}
use Rattle.logic_core.specs.Tree.{nodes, trees_nodes, parts_nodes}
use Rattle.logic_core.specs.Subterm.{has_any, has_part, is_quantifier}
use Rattle.logic_core.specs.View.{trees_of, parts_of}
use Rattle.tableau_branch.proofs.oriented.+has_quantifier.Given as goal

abbrev pub decreases-has_quantifier : goal.decreases-has_quantifier
decreases-has_quantifier l = 2 * nodes l.term.now

abbrev pub decreases-has_quantifier_in_terms : goal.decreases-has_quantifier_in_terms
decreases-has_quantifier_in_terms l = 2 * trees_nodes (trees_of l.terms.now) + 1

abbrev pub decreases-has_quantifier_in_parts : goal.decreases-has_quantifier_in_parts
decreases-has_quantifier_in_parts l = 2 * parts_nodes (parts_of l.parts.now) + 1

abbrev pub invariant-has_quantifier_in_terms-loop-term : goal.invariant-has_quantifier_in_terms-loop-term
invariant-has_quantifier_in_terms-loop-term l = record {
  rest : has_any is_quantifier (trees_of (drop l.term-index l.terms)) ≡ has_any is_quantifier (trees_of l.terms);
  less : trees_nodes (trees_of (drop l.term-index l.terms)) ≤ trees_nodes (trees_of l.terms);
}

abbrev pub invariant-has_quantifier_in_parts-loop-part : goal.invariant-has_quantifier_in_parts-loop-part
invariant-has_quantifier_in_parts-loop-part l = record {
  rest : has_part is_quantifier (parts_of (drop l.part-index l.parts)) ≡ has_part is_quantifier (parts_of l.parts);
  less : parts_nodes (parts_of (drop l.part-index l.parts)) ≤ parts_nodes (parts_of l.parts);
}
