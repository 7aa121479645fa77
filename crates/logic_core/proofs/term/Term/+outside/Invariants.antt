use Rattle.std.proofs.Common.{◌≡◌, ◌+◌, ◌*◌, ◌≤◌, drop}
use Rattle.std.specs.List.{list_any}
use Rattle.logic_terms.specs.Tree.{nodes, trees_nodes, parts_nodes}
use Rattle.logic_core.specs.View.{trees_of, parts_of}
use Rattle.logic_terms.specs.Same.{same_term}
use Rattle.logic_core.specs.Subterm.{outside_each, outside_parts}
use Rattle.logic_core.proofs.term.Term.+outside.Given as goal

abbrev pub decreases-stands_in : goal.decreases-stands_in
decreases-stands_in l = 2 * nodes l.term.now

abbrev pub decreases-stands_in_any : goal.decreases-stands_in_any
decreases-stands_in_any l = 2 * trees_nodes (trees_of l.terms.now) + 1

abbrev pub decreases-stands_in_part : goal.decreases-stands_in_part
decreases-stands_in_part l = 2 * parts_nodes (parts_of l.parts.now) + 1

abbrev pub invariant-stands_in_any-loop-term : goal.invariant-stands_in_any-loop-term
invariant-stands_in_any-loop-term l = record {
  same : list_any (same_term l.self) (outside_each (trees_of (drop l.term-index l.terms))) ≡ list_any (same_term l.self) (outside_each (trees_of l.terms));
  less : trees_nodes (trees_of (drop l.term-index l.terms)) ≤ trees_nodes (trees_of l.terms);
}

abbrev pub invariant-stands_in_part-loop-part : goal.invariant-stands_in_part-loop-part
invariant-stands_in_part-loop-part l = record {
  same : list_any (same_term l.self) (outside_parts (parts_of (drop l.part-index l.parts))) ≡ list_any (same_term l.self) (outside_parts (parts_of l.parts));
  less : parts_nodes (parts_of (drop l.part-index l.parts)) ≤ parts_nodes (parts_of l.parts);
}
