use Rattle.std.proofs.Common.{◌≡◌, drop}
use Rattle.numbered_branches.specs.NumberedChange.{added_each}
use Rattle.numbered_branches.specs.Seen.{seen_of}
use Rattle.numbered_branches.proofs.change.push_each.Given as goal

abbrev pub invariant-loop-fact : goal.invariant-loop-fact
invariant-loop-fact l = added_each (seen_of l.terms) (drop l.fact-index l.facts) l.made ≡ added_each (seen_of l.terms) l.facts l.fn.made
