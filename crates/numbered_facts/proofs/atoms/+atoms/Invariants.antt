use Rattle.std.proofs.Common.{◌+◌, ◌*◌, take}
use Rattle.numbered_terms.specs.Slots.{AreKept}
use Rattle.numbered_facts.specs.Atoms.{AreAtomsAmong}
use Rattle.numbered_facts.specs.Memos.{AreAtoms}
use Rattle.numbered_facts.proofs.atoms.+atoms.Given as goal

abbrev pub decreases-find_atoms : goal.decreases-find_atoms
decreases-find_atoms l = 2 * l.id + 1

abbrev pub decreases-join_each : goal.decreases-join_each
decreases-join_each l = 2 * l.below

abbrev pub invariant-join_each-loop-id : goal.invariant-join_each-loop-id
invariant-join_each-loop-id l = record {
  right : AreKept (AreAtoms l.terms) l.memo.slots.items;
  among : AreAtomsAmong l.terms l.below (take l.id-index l.ids) l.found.items;
}
