use Rattle.std.proofs.Common.{◌≡◌, ◌+◌, ◌*◌, ◌≤◌, drop}
use Rattle.logic_core.specs.Tree.{nodes, trees_nodes, parts_nodes, patterns_nodes}
use Rattle.logic_core.specs.View.{trees_of, parts_of, patterns_of, each_items}
use Rattle.proof_text.specs.Reading.{terms_fit, parts_fit, triggers_fit}
use Rattle.proof_text.proofs.ranges.+terms.Given as goal

abbrev pub decreases-term_fits : goal.decreases-term_fits
decreases-term_fits l = 3 * nodes l.term.now

abbrev pub decreases-terms_fit : goal.decreases-terms_fit
decreases-terms_fit l = 3 * trees_nodes (trees_of l.terms.now) + 1

abbrev pub decreases-parts_fit : goal.decreases-parts_fit
decreases-parts_fit l = 3 * parts_nodes (parts_of l.parts.now) + 1

abbrev pub decreases-triggers_fit : goal.decreases-triggers_fit
decreases-triggers_fit l = 3 * patterns_nodes (patterns_of (each_items l.patterns.now)) + 2

-- all fit where those that are left do
abbrev pub invariant-terms_fit-loop-term : goal.invariant-terms_fit-loop-term
invariant-terms_fit-loop-term l = record {
  same : terms_fit (trees_of (drop l.term-index l.terms)) ≡ terms_fit (trees_of l.terms);
  less : trees_nodes (trees_of (drop l.term-index l.terms)) ≤ trees_nodes (trees_of l.terms);
}

abbrev pub invariant-parts_fit-loop-part : goal.invariant-parts_fit-loop-part
invariant-parts_fit-loop-part l = record {
  same : parts_fit (parts_of (drop l.part-index l.parts)) ≡ parts_fit (parts_of l.parts);
  less : parts_nodes (parts_of (drop l.part-index l.parts)) ≤ parts_nodes (parts_of l.parts);
}

abbrev pub invariant-triggers_fit-loop-pattern : goal.invariant-triggers_fit-loop-pattern
invariant-triggers_fit-loop-pattern l = record {
  same : triggers_fit (patterns_of (each_items (drop l.pattern-index l.patterns))) ≡ triggers_fit (patterns_of (each_items l.patterns));
  less : patterns_nodes (patterns_of (each_items (drop l.pattern-index l.patterns))) ≤ patterns_nodes (patterns_of (each_items l.patterns));
}
