use Rattle.std.proofs.Common.{◌≡◌, ◌+◌, ◌*◌, ◌≤◌, drop}
use Rattle.logic_core.specs.Tree.{nodes, trees_nodes, parts_nodes, patterns_nodes}
use Rattle.logic_core.specs.View.{trees_of, parts_of, patterns_of, each_items}
use Rattle.logic_core.specs.Subterm.{has_any, has_part, has_pattern}
use Rattle.flow_core.specs.Reading.{is_unset}
use Rattle.flow_core.proofs.reading.+mentions.Given as goal

abbrev pub decreases-mentions_unset : goal.decreases-mentions_unset
decreases-mentions_unset l = 3 * nodes l.term.now

abbrev pub decreases-any_mentions_unset : goal.decreases-any_mentions_unset
decreases-any_mentions_unset l = 3 * trees_nodes (trees_of l.terms.now) + 1

abbrev pub decreases-part_mentions_unset : goal.decreases-part_mentions_unset
decreases-part_mentions_unset l = 3 * parts_nodes (parts_of l.parts.now) + 1

abbrev pub decreases-pattern_mentions_unset : goal.decreases-pattern_mentions_unset
decreases-pattern_mentions_unset l = 3 * patterns_nodes (patterns_of (each_items l.patterns.now)) + 2

abbrev pub invariant-any_mentions_unset-loop-term : goal.invariant-any_mentions_unset-loop-term
invariant-any_mentions_unset-loop-term l = record {
  same : has_any (is_unset l.own l.commands) (trees_of (drop l.term-index l.terms)) ≡ has_any (is_unset l.own l.commands) (trees_of l.terms);
  less : trees_nodes (trees_of (drop l.term-index l.terms)) ≤ trees_nodes (trees_of l.terms);
}

abbrev pub invariant-part_mentions_unset-loop-part : goal.invariant-part_mentions_unset-loop-part
invariant-part_mentions_unset-loop-part l = record {
  same : has_part (is_unset l.own l.commands) (parts_of (drop l.part-index l.parts)) ≡ has_part (is_unset l.own l.commands) (parts_of l.parts);
  less : parts_nodes (parts_of (drop l.part-index l.parts)) ≤ parts_nodes (parts_of l.parts);
}

abbrev pub invariant-pattern_mentions_unset-loop-pattern : goal.invariant-pattern_mentions_unset-loop-pattern
invariant-pattern_mentions_unset-loop-pattern l = record {
  same : has_pattern (is_unset l.own l.commands) (patterns_of (each_items (drop l.pattern-index l.patterns))) ≡ has_pattern (is_unset l.own l.commands) (patterns_of (each_items l.patterns));
  less : patterns_nodes (patterns_of (each_items (drop l.pattern-index l.patterns))) ≤ patterns_nodes (patterns_of (each_items l.patterns));
}
