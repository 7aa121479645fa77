use Rattle.std.proofs.Common.{◌≡◌, ◌+◌, ◌*◌, ◌<◌, take, map, length}
use Rattle.std.specs.List.{AllByRecursion, flat_map}
use Rattle.logic_core.specs.Subterm.{outside}
use Rattle.logic_rules.specs.Instantiating.{each_once}
use Rattle.term_bank.specs.Numbered.{at}
use Rattle.numbered_facts.specs.Inside.{AreOutside}
use Rattle.numbered_facts.proofs.standing.+standing.Given as goal

abbrev pub decreases-stand_in : goal.decreases-stand_in
decreases-stand_in l = 3 * l.id + 2

abbrev pub decreases-stand_inside : goal.decreases-stand_inside
decreases-stand_inside l = 3 * l.id + 1

abbrev pub decreases-stand_each : goal.decreases-stand_each
decreases-stand_each l = 3 * l.below

abbrev pub invariant-stand_each-loop-id : goal.invariant-stand_each-loop-id
invariant-stand_each-loop-id l = record {
  within : AllByRecursion (λ j. j < length l.terms) l.found;
  whole : AreOutside l.terms l.done l.found;
  found : map (at l.terms) l.found ≡ each_once (map (at l.terms) l.fn.found) (flat_map (λ i. outside (at l.terms i)) (take l.id-index l.ids));
}
