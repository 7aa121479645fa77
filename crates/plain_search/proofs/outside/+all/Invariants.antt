use Rattle.std.proofs.Common.{◌≡◌, ◌+◌, ◌*◌, ◌≤◌, ◌++◌, drop, filter}
use Rattle.logic_core.specs.Tree.{nodes, trees_nodes, parts_nodes}
use Rattle.logic_core.specs.Subterm.{outside_each, outside_parts}
use Rattle.logic_core.specs.View.{trees_of, parts_of}
use Rattle.tableau_branch.specs.Shapes.{has_shape}
use Rattle.plain_search.proofs.outside.+all.Given as goal

abbrev pub decreases-push_outside : goal.decreases-push_outside
decreases-push_outside l = 2 * nodes l.term.now

abbrev pub decreases-push_from_terms : goal.decreases-push_from_terms
decreases-push_from_terms l = 2 * trees_nodes (trees_of l.terms.now) + 1

abbrev pub decreases-push_from_parts : goal.decreases-push_from_parts
decreases-push_from_parts l = 2 * parts_nodes (parts_of l.parts.now) + 1

abbrev pub invariant-push_from_terms-loop-term : goal.invariant-push_from_terms-loop-term
invariant-push_from_terms-loop-term l = record {
  rest : l.found.items ++ filter (has_shape l.shape) (outside_each (trees_of (drop l.term-index l.terms))) ≡ l.fn.found.items ++ filter (has_shape l.shape) (outside_each (trees_of l.terms));
  less : trees_nodes (trees_of (drop l.term-index l.terms)) ≤ trees_nodes (trees_of l.terms);
}

abbrev pub invariant-push_from_parts-loop-part : goal.invariant-push_from_parts-loop-part
invariant-push_from_parts-loop-part l = record {
  rest : l.found.items ++ filter (has_shape l.shape) (outside_parts (parts_of (drop l.part-index l.parts))) ≡ l.fn.found.items ++ filter (has_shape l.shape) (outside_parts (parts_of l.parts));
  less : parts_nodes (parts_of (drop l.part-index l.parts)) ≤ parts_nodes (parts_of l.parts);
}
