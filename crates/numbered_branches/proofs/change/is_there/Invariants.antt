use Rattle.std.proofs.Common.{◌≡◌, drop}
use Rattle.numbered_branches.specs.Branches.{is_there}
use Rattle.numbered_branches.proofs.change.is_there.Given as goal

abbrev pub invariant-loop-fact : goal.invariant-loop-fact
invariant-loop-fact l = is_there l.id (drop l.fact-index l.facts) ≡ is_there l.id l.facts
