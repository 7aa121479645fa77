use Rattle.std.proofs.Common.{◌≡◌, ◌+◌, ◌*◌, ◌≤◌, drop}
use Rattle.logic_terms.specs.Tree.{nodes, trees_nodes, parts_nodes, patterns_nodes}
use Rattle.logic_core.specs.View.{trees_of, parts_of, patterns_of, each_items}
use Rattle.logic_terms.specs.Same.{same_term}
use Rattle.logic_core.specs.Subterm.{has_any, has_part, has_pattern}
use Rattle.logic_core.proofs.term.Term.+occurs.Given as goal

abbrev pub decreases-occurs_in : goal.decreases-occurs_in
decreases-occurs_in l = 3 * nodes l.term.now

abbrev pub decreases-occurs_in_any : goal.decreases-occurs_in_any
decreases-occurs_in_any l = 3 * trees_nodes (trees_of l.terms.now) + 1

abbrev pub decreases-occurs_in_part : goal.decreases-occurs_in_part
decreases-occurs_in_part l = 3 * parts_nodes (parts_of l.parts.now) + 1

abbrev pub decreases-occurs_in_pattern : goal.decreases-occurs_in_pattern
decreases-occurs_in_pattern l = 3 * patterns_nodes (patterns_of (each_items l.patterns.now)) + 2

abbrev pub invariant-occurs_in_any-loop-term : goal.invariant-occurs_in_any-loop-term
invariant-occurs_in_any-loop-term l = record {
  same : has_any (same_term l.self) (trees_of (drop l.term-index l.terms)) ≡ has_any (same_term l.self) (trees_of l.terms);
  less : trees_nodes (trees_of (drop l.term-index l.terms)) ≤ trees_nodes (trees_of l.terms);
}

abbrev pub invariant-occurs_in_part-loop-part : goal.invariant-occurs_in_part-loop-part
invariant-occurs_in_part-loop-part l = record {
  same : has_part (same_term l.self) (parts_of (drop l.part-index l.parts)) ≡ has_part (same_term l.self) (parts_of l.parts);
  less : parts_nodes (parts_of (drop l.part-index l.parts)) ≤ parts_nodes (parts_of l.parts);
}

abbrev pub invariant-occurs_in_pattern-loop-pattern : goal.invariant-occurs_in_pattern-loop-pattern
invariant-occurs_in_pattern-loop-pattern l = record {
  same : has_pattern (same_term l.self) (patterns_of (each_items (drop l.pattern-index l.patterns))) ≡ has_pattern (same_term l.self) (patterns_of (each_items l.patterns));
  less : patterns_nodes (patterns_of (each_items (drop l.pattern-index l.patterns))) ≤ patterns_nodes (patterns_of (each_items l.patterns));
}
