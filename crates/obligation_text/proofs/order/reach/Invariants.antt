use Rattle.std.proofs.Common.{◌≡◌, ◌+◌, ◌-◌, vec_len, ℕ}
use Rattle.std.specs.Prelude.{None, slice_index_or}
use Rattle.obligation_text.proofs.order.reach.Given as goal

-- the entries are as they were
abbrev pub invariant-loop-places : goal.invariant-loop-places
invariant-loop-places l = (v : ℕ) → slice_index_or l.places.items v None ≡ slice_index_or l.fn.places.items v None

abbrev pub decreases-loop-places : goal.decreases-loop-places
decreases-loop-places l = l.number + 1 - vec_len l.places
