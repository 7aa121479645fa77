use Rattle.std.proofs.Common.{◌≡◌, ℕ, ◌+◌, ◌-◌, length, get_or}
use Rattle.numbered_instances.proofs.counts.make_room.Given as goal

-- counts that are added are 0
abbrev pub invariant-loop-id : goal.invariant-loop-id
invariant-loop-id l = (j : ℕ) → get_or l.counts.items j 0 ≡ get_or l.fn.counts.items j 0

abbrev pub decreases-loop-id : goal.decreases-loop-id
decreases-loop-id l = l.fn.id + 1 - length l.counts.items
