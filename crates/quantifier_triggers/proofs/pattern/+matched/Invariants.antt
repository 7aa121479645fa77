use Rattle.std.proofs.Common.{◌≡◌, ◌+◌, ◌*◌, ◌≤◌, drop}
use Rattle.logic_core.specs.Tree.{nodes, trees_nodes}
use Rattle.logic_core.specs.View.{trees_of}
use Rattle.quantifier_triggers.specs.Match.{matched_each}
use Rattle.quantifier_triggers.proofs.pattern.+matched.Given as goal

abbrev pub decreases-matched : goal.decreases-matched
decreases-matched l = 2 * nodes l.pattern.now

abbrev pub decreases-matched_each : goal.decreases-matched_each
decreases-matched_each l = 2 * trees_nodes (trees_of l.patterns.now) + 1

abbrev pub invariant-matched_each-loop-i : goal.invariant-matched_each-loop-i
invariant-matched_each-loop-i l = record {
  same : matched_each l.vars l.defs l.kinds (trees_of (drop l.i l.patterns)) (trees_of (drop l.i l.terms)) l.found ≡ matched_each l.vars l.defs l.kinds (trees_of l.patterns) (trees_of l.terms) l.fn.found;
  less : trees_nodes (trees_of (drop l.i l.patterns)) ≤ trees_nodes (trees_of l.patterns);
}
