use Rattle.std.proofs.Common.{◌≡◌, ℕ, ◌+◌, ◌-◌, false, length, get_or}
use Rattle.numbered_terms.proofs.number_set.make_room.Given as goal

-- flags that are added aren't set
abbrev pub invariant-loop-id : goal.invariant-loop-id
invariant-loop-id l = (i : ℕ) → get_or l.flags.items i false ≡ get_or l.fn.flags.items i false

abbrev pub decreases-loop-id : goal.decreases-loop-id
decreases-loop-id l = l.fn.id + 1 - length l.flags.items
