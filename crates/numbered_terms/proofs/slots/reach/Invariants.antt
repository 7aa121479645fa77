use Rattle.std.proofs.Common.{◌≤◌, length}
use Rattle.numbered_terms.specs.Slots.{AreAlike}
use Rattle.numbered_terms.proofs.slots.reach.Given as goal

abbrev pub invariant-loop : goal.invariant-loop
invariant-loop g l = AreAlike l.fn.slots.items l.slots.items × (l.counter ≤ length l.slots.items)
