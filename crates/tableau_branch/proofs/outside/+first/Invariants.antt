use Rattle.std.proofs.Common.{◌≡◌, ◌+◌, ◌*◌, ◌≤◌, drop, find}
use Rattle.logic_core.specs.Tree.{nodes, trees_nodes, parts_nodes}
use Rattle.logic_core.specs.Subterm.{outside_each, outside_parts}
use Rattle.logic_core.specs.View.{trees_of, parts_of}
use Rattle.tableau_branch.specs.Shapes.{has_shape}
use Rattle.tableau_branch.proofs.outside.+first.Given as goal

abbrev pub decreases-first_outside : goal.decreases-first_outside
decreases-first_outside l = 2 * nodes l.term.now

abbrev pub decreases-first_in_terms : goal.decreases-first_in_terms
decreases-first_in_terms l = 2 * trees_nodes (trees_of l.terms.now) + 1

abbrev pub decreases-first_in_parts : goal.decreases-first_in_parts
decreases-first_in_parts l = 2 * parts_nodes (parts_of l.parts.now) + 1

abbrev pub invariant-first_in_terms-loop-term : goal.invariant-first_in_terms-loop-term
invariant-first_in_terms-loop-term l = record {
  rest : find (has_shape l.shape) (outside_each (trees_of (drop l.term-index l.terms))) ≡ find (has_shape l.shape) (outside_each (trees_of l.terms));
  less : trees_nodes (trees_of (drop l.term-index l.terms)) ≤ trees_nodes (trees_of l.terms);
}

abbrev pub invariant-first_in_parts-loop-part : goal.invariant-first_in_parts-loop-part
invariant-first_in_parts-loop-part l = record {
  rest : find (has_shape l.shape) (outside_parts (parts_of (drop l.part-index l.parts))) ≡ find (has_shape l.shape) (outside_parts (parts_of l.parts));
  less : parts_nodes (parts_of (drop l.part-index l.parts)) ≤ parts_nodes (parts_of l.parts);
}
