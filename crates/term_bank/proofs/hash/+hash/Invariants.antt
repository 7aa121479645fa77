use Rattle.std.proofs.Common.{◌≡◌, ◌+◌, ◌*◌, ◌≤◌, drop}
use Rattle.logic_core.specs.Tree.{nodes, trees_nodes, parts_nodes, patterns_nodes}
use Rattle.logic_core.specs.View.{trees_of, parts_of, patterns_of, each_items}
use Rattle.term_bank.specs.Hash.{hash_of_each, hash_of_parts, hash_of_patterns}
use Rattle.term_bank.proofs.hash.+hash.Given as goal

abbrev pub decreases-hash : goal.decreases-hash
decreases-hash l = 3 * nodes l.term.now

abbrev pub decreases-hash_each : goal.decreases-hash_each
decreases-hash_each l = 3 * trees_nodes (trees_of l.terms.now) + 1

abbrev pub decreases-hash_parts : goal.decreases-hash_parts
decreases-hash_parts l = 3 * parts_nodes (parts_of l.parts.now) + 1

abbrev pub decreases-hash_patterns : goal.decreases-hash_patterns
decreases-hash_patterns l = 3 * patterns_nodes (patterns_of (each_items l.patterns.now)) + 2

-- what is mixed so far, and then the rest, is what all give
abbrev pub invariant-hash_each-loop-term : goal.invariant-hash_each-loop-term
invariant-hash_each-loop-term l = record {
  mixes : hash_of_each l.mixed (trees_of (drop l.term-index l.terms)) ≡ hash_of_each l.start (trees_of l.terms);
  less : trees_nodes (trees_of (drop l.term-index l.terms)) ≤ trees_nodes (trees_of l.terms);
}

abbrev pub invariant-hash_parts-loop-part : goal.invariant-hash_parts-loop-part
invariant-hash_parts-loop-part l = record {
  mixes : hash_of_parts l.mixed (parts_of (drop l.part-index l.parts)) ≡ hash_of_parts l.start (parts_of l.parts);
  less : parts_nodes (parts_of (drop l.part-index l.parts)) ≤ parts_nodes (parts_of l.parts);
}

abbrev pub invariant-hash_patterns-loop-pattern : goal.invariant-hash_patterns-loop-pattern
invariant-hash_patterns-loop-pattern l = record {
  mixes : hash_of_patterns l.mixed (patterns_of (each_items (drop l.pattern-index l.patterns))) ≡ hash_of_patterns l.start (patterns_of (each_items l.patterns));
  less : patterns_nodes (patterns_of (each_items (drop l.pattern-index l.patterns))) ≤ patterns_nodes (patterns_of (each_items l.patterns));
}
