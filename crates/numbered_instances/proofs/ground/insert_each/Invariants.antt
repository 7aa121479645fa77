use Rattle.std.proofs.Common.{◌≡◌, drop}
use Rattle.numbered_branches.specs.Counts.{once}
use Rattle.numbered_instances.proofs.ground.insert_each.Given as goal

abbrev pub invariant-loop-id : goal.invariant-loop-id
invariant-loop-id l = once l.set (drop l.id-index l.ids) ≡ once l.fn.set l.ids
