use Rattle.std.proofs.Common.{◌≡◌, ◌+◌, ◌*◌, ◌≤◌, drop}
use Rattle.logic_terms.specs.Tree.{nodes, trees_nodes, parts_nodes, patterns_nodes}
use Rattle.logic_core.specs.View.{trees_of, parts_of, patterns_of, each_items}
use Rattle.logic_terms.specs.Sorts.{are, are_formulas, are_ints, have_sorts, have_sorts_in}
use Rattle.logic_core.proofs.+sorts.Given as goal

abbrev pub decreases-term::Term::sort_over : goal.decreases-term::Term::sort_over
decreases-term::Term::sort_over l = 5 * nodes l.self.now

abbrev pub decreases-term::Term::has_sort : goal.decreases-term::Term::has_sort
decreases-term::Term::has_sort l = 5 * nodes l.self.now + 1

abbrev pub decreases-sorts::are : goal.decreases-sorts::are
decreases-sorts::are l = 5 * trees_nodes (trees_of l.terms.now) + 2

abbrev pub decreases-sorts::are_formulas : goal.decreases-sorts::are_formulas
decreases-sorts::are_formulas l = 5 * trees_nodes (trees_of l.terms.now) + 2

abbrev pub decreases-sorts::are_ints : goal.decreases-sorts::are_ints
decreases-sorts::are_ints l = 5 * parts_nodes (parts_of l.parts.now) + 2

abbrev pub decreases-sorts::have_sorts : goal.decreases-sorts::have_sorts
decreases-sorts::have_sorts l = 5 * trees_nodes (trees_of l.terms.now) + 2

abbrev pub decreases-sorts::have_sorts_in : goal.decreases-sorts::have_sorts_in
decreases-sorts::have_sorts_in l = 5 * patterns_nodes (patterns_of (each_items l.patterns.now)) + 3

abbrev pub decreases-sorts::read_sort : goal.decreases-sorts::read_sort
decreases-sorts::read_sort l = 5 * (nodes l.map.now + nodes l.index.now) + 2

abbrev pub decreases-sorts::write_sort : goal.decreases-sorts::write_sort
decreases-sorts::write_sort l = 5 * (nodes l.map.now + nodes l.index.now + nodes l.value.now) + 2

abbrev pub decreases-sorts::choice_sort : goal.decreases-sorts::choice_sort
decreases-sorts::choice_sort l = 5 * (nodes l.condition.now + nodes l.a.now + nodes l.b.now) + 2

abbrev pub decreases-sorts::call_sort : goal.decreases-sorts::call_sort
decreases-sorts::call_sort l = 5 * trees_nodes (trees_of l.terms.now) + 3

abbrev pub decreases-sorts::equation_sort : goal.decreases-sorts::equation_sort
decreases-sorts::equation_sort l = 5 * (nodes l.a.now + nodes l.b.now) + 2

abbrev pub decreases-sorts::are_both : goal.decreases-sorts::are_both
decreases-sorts::are_both l = 5 * (nodes l.a.now + nodes l.b.now) + 2

abbrev pub decreases-sorts::is_quantified : goal.decreases-sorts::is_quantified
decreases-sorts::is_quantified l = 5 * (patterns_nodes (patterns_of (each_items l.patterns.now)) + nodes l.body.now) + 4

abbrev pub invariant-sorts::are-loop-i : goal.invariant-sorts::are-loop-i
invariant-sorts::are-loop-i l = record {
  same : are l.vars l.defs l.bound (drop l.i l.sorts) (trees_of (drop l.i l.terms)) ≡ are l.vars l.defs l.bound l.sorts (trees_of l.terms);
  less : trees_nodes (trees_of (drop l.i l.terms)) ≤ trees_nodes (trees_of l.terms);
}

abbrev pub invariant-sorts::are_formulas-loop-term : goal.invariant-sorts::are_formulas-loop-term
invariant-sorts::are_formulas-loop-term l = record {
  same : are_formulas l.vars l.defs l.bound (trees_of (drop l.term-index l.terms)) ≡ are_formulas l.vars l.defs l.bound (trees_of l.terms);
  less : trees_nodes (trees_of (drop l.term-index l.terms)) ≤ trees_nodes (trees_of l.terms);
}

abbrev pub invariant-sorts::are_ints-loop-part : goal.invariant-sorts::are_ints-loop-part
invariant-sorts::are_ints-loop-part l = record {
  same : are_ints l.vars l.defs l.bound (parts_of (drop l.part-index l.parts)) ≡ are_ints l.vars l.defs l.bound (parts_of l.parts);
  less : parts_nodes (parts_of (drop l.part-index l.parts)) ≤ parts_nodes (parts_of l.parts);
}

abbrev pub invariant-sorts::have_sorts-loop-term : goal.invariant-sorts::have_sorts-loop-term
invariant-sorts::have_sorts-loop-term l = record {
  same : have_sorts l.vars l.defs l.bound (trees_of (drop l.term-index l.terms)) ≡ have_sorts l.vars l.defs l.bound (trees_of l.terms);
  less : trees_nodes (trees_of (drop l.term-index l.terms)) ≤ trees_nodes (trees_of l.terms);
}

abbrev pub invariant-sorts::have_sorts_in-loop-pattern : goal.invariant-sorts::have_sorts_in-loop-pattern
invariant-sorts::have_sorts_in-loop-pattern l = record {
  same : have_sorts_in l.vars l.defs l.bound (patterns_of (each_items (drop l.pattern-index l.patterns))) ≡ have_sorts_in l.vars l.defs l.bound (patterns_of (each_items l.patterns));
  less : patterns_nodes (patterns_of (each_items (drop l.pattern-index l.patterns))) ≤ patterns_nodes (patterns_of (each_items l.patterns));
}
