use Rattle.std.proofs.Common.{◌≡◌, ◌+◌, ◌*◌, ◌≤◌, drop, option_map}
use Rattle.logic_terms.specs.Tree.{nodes, trees_nodes, parts_nodes, patterns_nodes}
use Rattle.logic_core.specs.View.{trees_of, parts_of, patterns_of, each_items}
use Rattle.logic_core.specs.Before.{before, tree_before, pattern_before}
use Rattle.logic_core.specs.Normal.{normal_each, normal_sum, normal_patterns}
use Rattle.logic_core.proofs.+normal.Given as goal

abbrev pub decreases-term::Term::normal_under : goal.decreases-term::Term::normal_under
decreases-term::Term::normal_under l = 4 * nodes l.self.now

abbrev pub decreases-normal::normal_each : goal.decreases-normal::normal_each
decreases-normal::normal_each l = 4 * trees_nodes (trees_of l.terms.now) + 1

abbrev pub decreases-normal::normal_sum : goal.decreases-normal::normal_sum
decreases-normal::normal_sum l = 4 * parts_nodes (parts_of l.parts.now) + 1

abbrev pub decreases-normal::normal_patterns : goal.decreases-normal::normal_patterns
decreases-normal::normal_patterns l = 4 * patterns_nodes (patterns_of (each_items l.patterns.now)) + 2

abbrev pub decreases-normal::normal_product : goal.decreases-normal::normal_product
decreases-normal::normal_product l = 4 * (nodes l.a.now + nodes l.b.now) + 1

abbrev pub decreases-normal::normal_read : goal.decreases-normal::normal_read
decreases-normal::normal_read l = 4 * (nodes l.map.now + nodes l.index.now) + 1

abbrev pub decreases-normal::normal_write : goal.decreases-normal::normal_write
decreases-normal::normal_write l = 4 * (nodes l.map.now + nodes l.index.now + nodes l.value.now) + 1

abbrev pub decreases-normal::normal_choice : goal.decreases-normal::normal_choice
decreases-normal::normal_choice l = 4 * (nodes l.c.now + nodes l.a.now + nodes l.b.now) + 1

abbrev pub decreases-normal::normal_junction : goal.decreases-normal::normal_junction
decreases-normal::normal_junction l = 4 * trees_nodes (trees_of l.terms.now) + 2

abbrev pub decreases-normal::normal_equation : goal.decreases-normal::normal_equation
decreases-normal::normal_equation l = 4 * (nodes l.a.now + nodes l.b.now) + 1

abbrev pub decreases-normal::normal_inequality : goal.decreases-normal::normal_inequality
decreases-normal::normal_inequality l = 4 * (nodes l.a.now + nodes l.b.now) + 1

abbrev pub decreases-normal::normal_quantified : goal.decreases-normal::normal_quantified
decreases-normal::normal_quantified l = 4 * (patterns_nodes (patterns_of (each_items l.patterns.now)) + nodes l.body.now) + 3

abbrev pub invariant-normal::normal_each-loop-term : goal.invariant-normal::normal_each-loop-term
invariant-normal::normal_each-loop-term l = record {
  left : option_map (before tree_before l.done.items) (normal_each l.vars l.defs l.bound (trees_of (drop l.term-index l.terms))) ≡ normal_each l.vars l.defs l.bound (trees_of l.terms);
  less : trees_nodes (trees_of (drop l.term-index l.terms)) ≤ trees_nodes (trees_of l.terms);
}

abbrev pub invariant-normal::normal_sum-loop-part : goal.invariant-normal::normal_sum-loop-part
invariant-normal::normal_sum-loop-part l = record {
  left : normal_sum l.vars l.defs l.bound (parts_of (drop l.part-index l.parts)) l.sum ≡ normal_sum l.vars l.defs l.bound (parts_of l.parts) l.initial.sum;
  less : parts_nodes (parts_of (drop l.part-index l.parts)) ≤ parts_nodes (parts_of l.parts);
}

abbrev pub invariant-normal::normal_patterns-loop-pattern : goal.invariant-normal::normal_patterns-loop-pattern
invariant-normal::normal_patterns-loop-pattern l = record {
  left : option_map (before pattern_before l.done.items) (normal_patterns l.vars l.defs l.bound (patterns_of (each_items (drop l.pattern-index l.patterns)))) ≡ normal_patterns l.vars l.defs l.bound (patterns_of (each_items l.patterns));
  less : patterns_nodes (patterns_of (each_items (drop l.pattern-index l.patterns))) ≤ patterns_nodes (patterns_of (each_items l.patterns));
}
