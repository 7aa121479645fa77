use Rattle.std.proofs.Common.{◌≡◌, ◌+◌, ◌*◌, ◌≤◌, ◌++◌, drop}
use Rattle.logic_core.specs.Tree.{nodes, trees_nodes, parts_nodes, patterns_nodes}
use Rattle.logic_core.specs.View.{trees_of, parts_of, patterns_of, each_items}
use Rattle.term_bank.specs.Hash.{hash_of_each, hash_of_parts, hash_of_patterns}
use Rattle.tableau_branch.specs.Applications.{applications_of_each, applications_of_parts, applications_of_patterns}
use Rattle.tableau_branch.proofs.applications.Applications.+add.Given as goal

abbrev pub decreases-add_term : goal.decreases-add_term
decreases-add_term l = 3 * nodes l.term.now

abbrev pub decreases-add_two : goal.decreases-add_two
decreases-add_two l = 3 * (nodes l.a.now + nodes l.b.now) + 1

abbrev pub decreases-add_three : goal.decreases-add_three
decreases-add_three l = 3 * (nodes l.a.now + nodes l.b.now + nodes l.c.now) + 1

abbrev pub decreases-add_terms : goal.decreases-add_terms
decreases-add_terms l = 3 * trees_nodes (trees_of l.terms.now) + 1

abbrev pub decreases-add_parts : goal.decreases-add_parts
decreases-add_parts l = 3 * parts_nodes (parts_of l.parts.now) + 1

abbrev pub decreases-add_patterns : goal.decreases-add_patterns
decreases-add_patterns l = 3 * patterns_nodes (patterns_of (each_items l.patterns.now)) + 2

-- what is mixed and what is there so far, and then what the rest gives, is what all gives
abbrev pub invariant-add_terms-loop-term : goal.invariant-add_terms-loop-term
invariant-add_terms-loop-term l = record {
  mixes : hash_of_each l.mixed (trees_of (drop l.term-index l.terms)) ≡ hash_of_each l.start (trees_of l.terms);
  hashes : l.self.hashes.items ++ applications_of_each (trees_of (drop l.term-index l.terms)) ≡ l.fn.self.hashes.items ++ applications_of_each (trees_of l.terms);
  less : trees_nodes (trees_of (drop l.term-index l.terms)) ≤ trees_nodes (trees_of l.terms);
}

abbrev pub invariant-add_parts-loop-part : goal.invariant-add_parts-loop-part
invariant-add_parts-loop-part l = record {
  mixes : hash_of_parts l.mixed (parts_of (drop l.part-index l.parts)) ≡ hash_of_parts l.start (parts_of l.parts);
  hashes : l.self.hashes.items ++ applications_of_parts (parts_of (drop l.part-index l.parts)) ≡ l.fn.self.hashes.items ++ applications_of_parts (parts_of l.parts);
  less : parts_nodes (parts_of (drop l.part-index l.parts)) ≤ parts_nodes (parts_of l.parts);
}

abbrev pub invariant-add_patterns-loop-pattern : goal.invariant-add_patterns-loop-pattern
invariant-add_patterns-loop-pattern l = record {
  mixes : hash_of_patterns l.mixed (patterns_of (each_items (drop l.pattern-index l.patterns))) ≡ hash_of_patterns l.start (patterns_of (each_items l.patterns));
  hashes : l.self.hashes.items ++ applications_of_patterns (patterns_of (each_items (drop l.pattern-index l.patterns))) ≡ l.fn.self.hashes.items ++ applications_of_patterns (patterns_of (each_items l.patterns));
  less : patterns_nodes (patterns_of (each_items (drop l.pattern-index l.patterns))) ≤ patterns_nodes (patterns_of (each_items l.patterns));
}
