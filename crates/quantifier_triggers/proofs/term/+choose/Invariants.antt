use Rattle.std.proofs.Common.{◌≡◌, ◌+◌, ◌*◌, ◌≤◌, drop}
use Rattle.logic_core.specs.Tree.{nodes, trees_nodes, parts_nodes}
use Rattle.logic_core.specs.View.{trees_of, parts_of}
use Rattle.logic_core.specs.Before.{before, tree_before, part_before}
use Rattle.quantifier_triggers.specs.Choice.{each_with_triggers, parts_with_triggers}
use Rattle.quantifier_triggers.proofs.term.+choose.Given as goal

abbrev pub decreases-choose : goal.decreases-choose
decreases-choose l = 3 * nodes l.term.now

abbrev pub decreases-choose_boxed : goal.decreases-choose_boxed
decreases-choose_boxed l = 3 * nodes l.term.now + 1

abbrev pub decreases-choose_two : goal.decreases-choose_two
decreases-choose_two l = 3 * (nodes l.a.now + nodes l.b.now) + 2

abbrev pub decreases-choose_three : goal.decreases-choose_three
decreases-choose_three l = 3 * (nodes l.a.now + nodes l.b.now + nodes l.c.now) + 2

abbrev pub decreases-choose_quantified : goal.decreases-choose_quantified
decreases-choose_quantified l = 3 * nodes l.body.now + 2

abbrev pub decreases-choose_each : goal.decreases-choose_each
decreases-choose_each l = 3 * trees_nodes (trees_of l.terms.now) + 1

abbrev pub decreases-choose_parts : goal.decreases-choose_parts
decreases-choose_parts l = 3 * parts_nodes (parts_of l.parts.now) + 1

-- what is made so far, and then what the rest gives, is what all gives
abbrev pub invariant-choose_each-loop-term : goal.invariant-choose_each-loop-term
invariant-choose_each-loop-term l = record {
  made : before tree_before l.copies.items (each_with_triggers l.defs (trees_of (drop l.term-index l.terms))) ≡ each_with_triggers l.defs (trees_of l.terms);
  less : trees_nodes (trees_of (drop l.term-index l.terms)) ≤ trees_nodes (trees_of l.terms);
}

abbrev pub invariant-choose_parts-loop-part : goal.invariant-choose_parts-loop-part
invariant-choose_parts-loop-part l = record {
  made : before part_before l.copies.items (parts_with_triggers l.defs (parts_of (drop l.part-index l.parts))) ≡ parts_with_triggers l.defs (parts_of l.parts);
  less : parts_nodes (parts_of (drop l.part-index l.parts)) ≤ parts_nodes (parts_of l.parts);
}
