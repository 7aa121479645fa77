use Rattle.std.proofs.Common.{◌≡◌, ◌+◌, ◌*◌, ◌≤◌, drop}
use Rattle.logic_terms.specs.Tree.{nodes, trees_nodes, parts_nodes, patterns_nodes}
use Rattle.logic_core.specs.View.{trees_of, parts_of, patterns_of, each_items}
use Rattle.logic_terms.specs.Same.{same_trees, same_parts, same_patterns}
use Rattle.logic_core.proofs.+same.Given as goal

abbrev pub decreases-term::Term::equals : goal.decreases-term::Term::equals
decreases-term::Term::equals l = 4 * nodes l.self.now

abbrev pub decreases-same::equal_terms : goal.decreases-same::equal_terms
decreases-same::equal_terms l = 4 * trees_nodes (trees_of l.mine.now) + 1

abbrev pub decreases-same::equal_parts : goal.decreases-same::equal_parts
decreases-same::equal_parts l = 4 * parts_nodes (parts_of l.mine.now) + 1

abbrev pub decreases-same::equal_patterns : goal.decreases-same::equal_patterns
decreases-same::equal_patterns l = 4 * patterns_nodes (patterns_of (each_items l.mine.now)) + 2

abbrev pub decreases-same::equal_one : goal.decreases-same::equal_one
decreases-same::equal_one l = 4 * nodes l.a.now + 1

abbrev pub decreases-same::equal_two : goal.decreases-same::equal_two
decreases-same::equal_two l = 4 * (nodes l.a.now + nodes l.b.now) + 1

abbrev pub decreases-same::equal_three : goal.decreases-same::equal_three
decreases-same::equal_three l = 4 * (nodes l.a.now + (nodes l.b.now + nodes l.c.now)) + 1

abbrev pub decreases-same::equal_many : goal.decreases-same::equal_many
decreases-same::equal_many l = 4 * trees_nodes (trees_of l.terms.now) + 2

abbrev pub decreases-same::equal_calls : goal.decreases-same::equal_calls
decreases-same::equal_calls l = 4 * trees_nodes (trees_of l.terms.now) + 3

abbrev pub decreases-same::equal_sums : goal.decreases-same::equal_sums
decreases-same::equal_sums l = 4 * parts_nodes (parts_of l.parts.now) + 2

abbrev pub decreases-same::equal_quantified : goal.decreases-same::equal_quantified
decreases-same::equal_quantified l = 4 * (patterns_nodes (patterns_of (each_items l.patterns.now)) + nodes l.body.now) + 3

abbrev pub invariant-same::equal_terms-loop-i : goal.invariant-same::equal_terms-loop-i
invariant-same::equal_terms-loop-i l = record {
  same : same_trees (trees_of (drop l.i l.mine)) (trees_of (drop l.i l.theirs)) ≡ same_trees (trees_of l.mine) (trees_of l.theirs);
  less : trees_nodes (trees_of (drop l.i l.mine)) ≤ trees_nodes (trees_of l.mine);
}

abbrev pub invariant-same::equal_parts-loop-i : goal.invariant-same::equal_parts-loop-i
invariant-same::equal_parts-loop-i l = record {
  same : same_parts (parts_of (drop l.i l.mine)) (parts_of (drop l.i l.theirs)) ≡ same_parts (parts_of l.mine) (parts_of l.theirs);
  less : parts_nodes (parts_of (drop l.i l.mine)) ≤ parts_nodes (parts_of l.mine);
}

abbrev pub invariant-same::equal_patterns-loop-i : goal.invariant-same::equal_patterns-loop-i
invariant-same::equal_patterns-loop-i l = record {
  same : same_patterns (patterns_of (each_items (drop l.i l.mine))) (patterns_of (each_items (drop l.i l.theirs))) ≡ same_patterns (patterns_of (each_items l.mine)) (patterns_of (each_items l.theirs));
  less : patterns_nodes (patterns_of (each_items (drop l.i l.mine))) ≤ patterns_nodes (patterns_of (each_items l.mine));
}
