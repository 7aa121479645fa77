use Rattle.std.proofs.Common.{◌≡◌, map, take}
use Rattle.numbered_branches.specs.Branches.{fact_at}
use Rattle.numbered_branches.proofs.to_trees.fact_trees.Given as goal

abbrev pub invariant-loop-fact : goal.invariant-loop-fact
invariant-loop-fact l = l.all.items ≡ map (fact_at l.terms) (take l.fact-index l.facts)
