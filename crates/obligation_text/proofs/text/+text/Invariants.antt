use Rattle.std.proofs.Common.{◌≡◌, ◌+◌, ◌*◌, ◌≤◌, ◌++◌, drop}
use Rattle.logic_core.specs.Tree.{nodes, trees_nodes, parts_nodes, patterns_nodes}
use Rattle.logic_core.specs.View.{trees_of, parts_of, patterns_of, each_items}
use Rattle.obligation_text.specs.Text.{terms_text, parts_text, triggers_text}
use Rattle.obligation_text.proofs.text.+text.Given as goal

abbrev pub decreases-put_term : goal.decreases-put_term
decreases-put_term l = 6 * nodes l.term.now

abbrev pub decreases-put_spaced : goal.decreases-put_spaced
decreases-put_spaced l = 6 * nodes l.term.now + 1

abbrev pub decreases-put_two : goal.decreases-put_two
decreases-put_two l = 6 * (nodes l.a.now + nodes l.b.now) + 2

abbrev pub decreases-put_three : goal.decreases-put_three
decreases-put_three l = 6 * (nodes l.a.now + nodes l.b.now + nodes l.c.now) + 2

abbrev pub decreases-put_terms : goal.decreases-put_terms
decreases-put_terms l = 6 * trees_nodes (trees_of l.terms.now) + 2

abbrev pub decreases-put_parts : goal.decreases-put_parts
decreases-put_parts l = 6 * parts_nodes (parts_of l.parts.now) + 2

abbrev pub decreases-put_form : goal.decreases-put_form
decreases-put_form l = 6 * trees_nodes (trees_of l.terms.now) + 3

abbrev pub decreases-put_triggers : goal.decreases-put_triggers
decreases-put_triggers l = 6 * patterns_nodes (patterns_of (each_items l.patterns.now)) + 4

abbrev pub decreases-put_quantifier : goal.decreases-put_quantifier
decreases-put_quantifier l = 6 * (patterns_nodes (patterns_of (each_items l.patterns.now)) + nodes l.body.now) + 5

-- what is written, and then the texts of the rest, are the texts of all
abbrev pub invariant-put_terms-loop-term : goal.invariant-put_terms-loop-term
invariant-put_terms-loop-term l = record {
  same : l.out.items ++ terms_text (trees_of (drop l.term-index l.terms)) ≡ l.fn.out.items ++ terms_text (trees_of l.terms);
  less : trees_nodes (trees_of (drop l.term-index l.terms)) ≤ trees_nodes (trees_of l.terms);
}

abbrev pub invariant-put_parts-loop-part : goal.invariant-put_parts-loop-part
invariant-put_parts-loop-part l = record {
  same : l.out.items ++ parts_text (parts_of (drop l.part-index l.parts)) ≡ l.fn.out.items ++ parts_text (parts_of l.parts);
  less : parts_nodes (parts_of (drop l.part-index l.parts)) ≤ parts_nodes (parts_of l.parts);
}

abbrev pub invariant-put_triggers-loop-pattern : goal.invariant-put_triggers-loop-pattern
invariant-put_triggers-loop-pattern l = record {
  same : l.out.items ++ triggers_text (patterns_of (each_items (drop l.pattern-index l.patterns))) ≡ l.fn.out.items ++ triggers_text (patterns_of (each_items l.patterns));
  less : patterns_nodes (patterns_of (each_items (drop l.pattern-index l.patterns))) ≤ patterns_nodes (patterns_of (each_items l.patterns));
}
