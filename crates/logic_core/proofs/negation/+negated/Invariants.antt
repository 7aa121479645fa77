use Rattle.std.proofs.Common.{◌≡◌, ◌+◌, ◌*◌, ◌≤◌, option_map, drop}
use Rattle.logic_terms.specs.Tree.{nodes, trees_nodes}
use Rattle.logic_core.specs.View.{trees_of}
use Rattle.logic_core.specs.Before.{before, tree_before}
use Rattle.logic_core.specs.Junction.{negated_each}
use Rattle.logic_core.proofs.negation.+negated.Given as goal

abbrev pub decreases-negated : goal.decreases-negated
decreases-negated l = 3 * nodes l.term.now

abbrev pub decreases-negated_each : goal.decreases-negated_each
decreases-negated_each l = 3 * trees_nodes (trees_of l.terms.now) + 1

abbrev pub decreases-negated_junction : goal.decreases-negated_junction
decreases-negated_junction l = 3 * trees_nodes (trees_of l.terms.now) + 2

abbrev pub decreases-negated_parts : goal.decreases-negated_parts
decreases-negated_parts l = 3 * nodes l.body.now + 1

abbrev pub invariant-negated_each-loop-term : goal.invariant-negated_each-loop-term
invariant-negated_each-loop-term l = record {
  made : option_map (before tree_before l.parts.items) (negated_each (trees_of (drop l.term-index l.terms))) ≡ negated_each (trees_of l.terms);
  less : trees_nodes (trees_of (drop l.term-index l.terms)) ≤ trees_nodes (trees_of l.terms);
}
