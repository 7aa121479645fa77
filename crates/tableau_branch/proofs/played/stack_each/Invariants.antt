use Rattle.std.proofs.Common.{◌≡◌, ◌++◌, map, reverse, vec_len}
use Rattle.tableau_branch.specs.View.{each_steps}
use Rattle.tableau_branch.proofs.played.stack_each.Given as goal

abbrev pub invariant-loop-made_one : goal.invariant-loop-made_one
invariant-loop-made_one l = record {
  branches : map (λ m. m.branch) l.made.items ++ reverse l.stack.items ≡ map (λ m. m.branch) l.fn.made.items ++ reverse l.fn.stack.items;
  steps : map (λ m. m.steps) l.made.items ++ each_steps (reverse l.steps.items) ≡ map (λ m. m.steps) l.fn.made.items;
}

abbrev pub decreases-loop-made_one : goal.decreases-loop-made_one
decreases-loop-made_one l = vec_len l.made
