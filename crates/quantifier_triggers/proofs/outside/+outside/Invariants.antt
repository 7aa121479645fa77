use Rattle.std.proofs.Common.{◌≡◌, ◌+◌, ◌*◌, ◌≤◌, ◌++◌, map, drop}
use Rattle.logic_core.specs.Tree.{nodes, trees_nodes, parts_nodes}
use Rattle.logic_core.specs.View.{trees_of, parts_of}
use Rattle.logic_core.specs.Subterm.{outside_each, outside_parts}
use Rattle.quantifier_triggers.proofs.outside.+outside.Given as goal

abbrev pub decreases-push_outside : goal.decreases-push_outside
decreases-push_outside l = 3 * nodes l.term.now

abbrev pub decreases-push_each : goal.decreases-push_each
decreases-push_each l = 3 * trees_nodes (trees_of l.terms.now) + 1

abbrev pub decreases-push_parts : goal.decreases-push_parts
decreases-push_parts l = 3 * parts_nodes (parts_of l.parts.now) + 1

-- what is found so far, and then what stands in the rest
abbrev pub invariant-push_each-loop-term : goal.invariant-push_each-loop-term
invariant-push_each-loop-term l = record {
  made : map (λ x. x.now) l.found.items ++ outside_each (trees_of (drop l.term-index l.terms)) ≡ map (λ x. x.now) l.initial.found.items ++ outside_each (trees_of l.terms);
  less : trees_nodes (trees_of (drop l.term-index l.terms)) ≤ trees_nodes (trees_of l.terms);
}

abbrev pub invariant-push_parts-loop-part : goal.invariant-push_parts-loop-part
invariant-push_parts-loop-part l = record {
  made : map (λ x. x.now) l.found.items ++ outside_parts (parts_of (drop l.part-index l.parts)) ≡ map (λ x. x.now) l.initial.found.items ++ outside_parts (parts_of l.parts);
  less : parts_nodes (parts_of (drop l.part-index l.parts)) ≤ parts_nodes (parts_of l.parts);
}
