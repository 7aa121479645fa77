use Rattle.std.proofs.Common.{◌≡◌, ◌+◌, ◌*◌, ◌≤◌, ◌++◌, drop}
use Rattle.logic_terms.specs.Tree.{nodes, trees_nodes, parts_nodes, patterns_nodes}
use Rattle.logic_core.specs.View.{trees_of, parts_of, patterns_of, each_items}
use Rattle.logic_core.specs.Variables.{variables_of_each, variables_of_parts, variables_of_patterns, calls_of_each, calls_of_parts, calls_of_patterns}
use Rattle.logic_core.proofs.mention.Mentioned.+mention.Given as goal

abbrev pub decreases-add_term : goal.decreases-add_term
decreases-add_term l = 3 * nodes l.term.now

abbrev pub decreases-add_terms : goal.decreases-add_terms
decreases-add_terms l = 3 * trees_nodes (trees_of l.terms.now) + 1

abbrev pub decreases-add_parts : goal.decreases-add_parts
decreases-add_parts l = 3 * parts_nodes (parts_of l.parts.now) + 1

abbrev pub decreases-add_patterns : goal.decreases-add_patterns
decreases-add_patterns l = 3 * patterns_nodes (patterns_of (each_items l.patterns.now)) + 2

-- what is there, and then what the rest gives, is what all gives
abbrev pub invariant-add_terms-loop-term : goal.invariant-add_terms-loop-term
invariant-add_terms-loop-term l = record {
  variables : l.self.variables.items ++ variables_of_each (trees_of (drop l.term-index l.terms)) ≡ l.fn.self.variables.items ++ variables_of_each (trees_of l.terms);
  definitions : l.self.definitions.items ++ calls_of_each (trees_of (drop l.term-index l.terms)) ≡ l.fn.self.definitions.items ++ calls_of_each (trees_of l.terms);
  less : trees_nodes (trees_of (drop l.term-index l.terms)) ≤ trees_nodes (trees_of l.terms);
}

abbrev pub invariant-add_parts-loop-part : goal.invariant-add_parts-loop-part
invariant-add_parts-loop-part l = record {
  variables : l.self.variables.items ++ variables_of_parts (parts_of (drop l.part-index l.parts)) ≡ l.fn.self.variables.items ++ variables_of_parts (parts_of l.parts);
  definitions : l.self.definitions.items ++ calls_of_parts (parts_of (drop l.part-index l.parts)) ≡ l.fn.self.definitions.items ++ calls_of_parts (parts_of l.parts);
  less : parts_nodes (parts_of (drop l.part-index l.parts)) ≤ parts_nodes (parts_of l.parts);
}

abbrev pub invariant-add_patterns-loop-pattern : goal.invariant-add_patterns-loop-pattern
invariant-add_patterns-loop-pattern l = record {
  variables : l.self.variables.items ++ variables_of_patterns (patterns_of (each_items (drop l.pattern-index l.patterns))) ≡ l.fn.self.variables.items ++ variables_of_patterns (patterns_of (each_items l.patterns));
  definitions : l.self.definitions.items ++ calls_of_patterns (patterns_of (each_items (drop l.pattern-index l.patterns))) ≡ l.fn.self.definitions.items ++ calls_of_patterns (patterns_of (each_items l.patterns));
  less : patterns_nodes (patterns_of (each_items (drop l.pattern-index l.patterns))) ≤ patterns_nodes (patterns_of (each_items l.patterns));
}
