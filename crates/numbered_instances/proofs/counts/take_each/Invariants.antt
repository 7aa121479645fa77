use Rattle.std.proofs.Common.{◌≡◌, ℕ, ◌-◌, get_or, take}
use Rattle.numbered_instances.specs.Shared.{times}
use Rattle.numbered_instances.proofs.counts.take_each.Given as goal

abbrev pub invariant-loop-id : goal.invariant-loop-id
invariant-loop-id l = (j : ℕ) → get_or l.counts.items j 0 ≡ get_or l.fn.counts.items j 0 - times j (take l.id-index l.ids)
