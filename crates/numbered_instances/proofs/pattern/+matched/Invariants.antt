use Rattle.std.proofs.Common.{◌≡◌, ◌+◌, ◌*◌, length, drop}
use Rattle.logic_core.specs.View.{trees_of}
use Rattle.quantifier_triggers.specs.Match.{matched_each}
use Rattle.numbered_terms.specs.Lists.{terms_at}
use Rattle.numbered_instances.specs.Finding.{found_at, IsFoundBelow}
use Rattle.numbered_instances.proofs.pattern.+matched.Given as goal

abbrev pub decreases-matched : goal.decreases-matched
decreases-matched l = 2 * l.pattern + 1

abbrev pub decreases-matched_each : goal.decreases-matched_each
decreases-matched_each l = 2 * l.below

abbrev pub invariant-matched_each-loop-i : goal.invariant-matched_each-loop-i
invariant-matched_each-loop-i l = record {
  same : matched_each l.vars l.defs l.kinds (trees_of (terms_at l.terms (drop l.i l.patterns))) (trees_of (terms_at l.terms (drop l.i l.args))) (found_at l.terms l.found.items)
      ≡ matched_each l.vars l.defs l.kinds (trees_of (terms_at l.terms l.patterns)) (trees_of (terms_at l.terms l.args)) (found_at l.terms l.fn.found.items);
  within : IsFoundBelow (length l.terms) l.found.items;
}
