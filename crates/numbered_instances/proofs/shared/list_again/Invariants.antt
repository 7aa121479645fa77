use Rattle.std.proofs.Common.{◌≡◌, map, take}
use Rattle.numbered_branches.specs.Branches.{NumberedFact}
use Rattle.numbered_instances.proofs.shared.list_again.Given as goal

abbrev pub invariant-loop-fact : goal.invariant-loop-fact
invariant-loop-fact l = l.listed.items ≡ map (λ (f : NumberedFact). f.term) (take l.fact-index l.facts)
