use Rattle.std.proofs.Common.{◌≡◌, ◌+◌, ◌*◌, ◌≤◌, drop}
use Rattle.logic_terms.specs.Tree.{nodes, trees_nodes, parts_nodes, patterns_nodes}
use Rattle.logic_core.specs.View.{trees_of, parts_of, patterns_of, each_items}
use Rattle.logic_core.specs.Traversed.{traversed_each, traversed_parts, traversed_patterns}
use Rattle.logic_core.specs.Before.{before, tree_before, part_before, pattern_before}
use Rattle.logic_core.proofs.traverse.+traverse.Given as goal

abbrev pub decreases-traverse : goal.decreases-traverse
decreases-traverse g l = 4 * nodes l.term.now

abbrev pub decreases-traverse_boxed : goal.decreases-traverse_boxed
decreases-traverse_boxed g l = 4 * nodes l.term.now + 1

abbrev pub decreases-traverse_two : goal.decreases-traverse_two
decreases-traverse_two g l = 4 * (nodes l.a.now + nodes l.b.now) + 2

abbrev pub decreases-traverse_three : goal.decreases-traverse_three
decreases-traverse_three g l = 4 * (nodes l.a.now + nodes l.b.now + nodes l.c.now) + 2

abbrev pub decreases-traverse_quantified : goal.decreases-traverse_quantified
decreases-traverse_quantified g l = 4 * (patterns_nodes (patterns_of (each_items l.patterns.now)) + nodes l.body.now) + 3

abbrev pub decreases-traverse_each : goal.decreases-traverse_each
decreases-traverse_each g l = 4 * trees_nodes (trees_of l.each.now) + 1

abbrev pub decreases-traverse_parts : goal.decreases-traverse_parts
decreases-traverse_parts g l = 4 * parts_nodes (parts_of l.parts.now) + 1

abbrev pub decreases-traverse_patterns : goal.decreases-traverse_patterns
decreases-traverse_patterns g l = 4 * patterns_nodes (patterns_of (each_items l.patterns.now)) + 2

-- what is made so far, and then what the rest gives, is what all gives
abbrev pub invariant-traverse_each-loop-term : goal.invariant-traverse_each-loop-term
invariant-traverse_each-loop-term g l = record {
  made : before tree_before l.copies.items (traversed_each (g.W.Walk.stands l.walk) (g.W.Walk.under l.walk) (g.W.Walk.number l.walk) l.depth (trees_of (drop l.term-index l.each))) ≡ traversed_each (g.W.Walk.stands l.walk) (g.W.Walk.under l.walk) (g.W.Walk.number l.walk) l.depth (trees_of l.each);
  less : trees_nodes (trees_of (drop l.term-index l.each)) ≤ trees_nodes (trees_of l.each);
}

abbrev pub invariant-traverse_parts-loop-part : goal.invariant-traverse_parts-loop-part
invariant-traverse_parts-loop-part g l = record {
  made : before part_before l.copies.items (traversed_parts (g.W.Walk.stands l.walk) (g.W.Walk.under l.walk) (g.W.Walk.number l.walk) l.depth (parts_of (drop l.part-index l.parts))) ≡ traversed_parts (g.W.Walk.stands l.walk) (g.W.Walk.under l.walk) (g.W.Walk.number l.walk) l.depth (parts_of l.parts);
  less : parts_nodes (parts_of (drop l.part-index l.parts)) ≤ parts_nodes (parts_of l.parts);
}

abbrev pub invariant-traverse_patterns-loop-pattern : goal.invariant-traverse_patterns-loop-pattern
invariant-traverse_patterns-loop-pattern g l = record {
  made : before pattern_before l.copies.items (traversed_patterns (g.W.Walk.stands l.walk) (g.W.Walk.under l.walk) (g.W.Walk.number l.walk) l.depth (patterns_of (each_items (drop l.pattern-index l.patterns)))) ≡ traversed_patterns (g.W.Walk.stands l.walk) (g.W.Walk.under l.walk) (g.W.Walk.number l.walk) l.depth (patterns_of (each_items l.patterns));
  less : patterns_nodes (patterns_of (each_items (drop l.pattern-index l.patterns))) ≤ patterns_nodes (patterns_of (each_items l.patterns));
}
