use Rattle.std.proofs.Common.{◌≡◌, ◌++◌, map, reverse, vec_len}
use Rattle.numbered_branches.specs.View.{each_seen}
use Rattle.numbered_branches.specs.Branches.{NumberedMade}
use Rattle.numbered_branches.proofs.played.stack_each.Given as goal

abbrev pub invariant-loop-made_one : goal.invariant-loop-made_one
invariant-loop-made_one l = record {
  branches : map (λ (m : NumberedMade). m.branch) l.made.items ++ reverse l.stack.items ≡ map (λ (m : NumberedMade). m.branch) l.fn.made.items ++ reverse l.fn.stack.items;
  steps : map (λ (m : NumberedMade). m.steps) l.made.items ++ each_seen (reverse l.steps.items) ≡ map (λ (m : NumberedMade). m.steps) l.fn.made.items;
}

abbrev pub decreases-loop-made_one : goal.decreases-loop-made_one
decreases-loop-made_one l = vec_len l.made
