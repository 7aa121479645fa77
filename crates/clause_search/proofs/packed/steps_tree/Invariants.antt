use Rattle.std.proofs.Common.{◌≡◌, ◌++◌, map, length, vec_len}
use Rattle.std.specs.List.{AllByRecursion}
use Rattle.proof_core.specs.View.{steps_of}
use Rattle.numbered_branches.specs.Branches.{IsStepBelow, step_at}
use Rattle.clause_search.specs.Packed.{packed_steps}
use Rattle.clause_search.proofs.packed.steps_tree.Given as goal

abbrev pub invariant-loop-step : goal.invariant-loop-step
invariant-loop-step l = record {
  below : AllByRecursion (IsStepBelow (length l.terms)) (packed_steps l.packed);
  trees : steps_of l.trees.items ++ map (step_at l.terms) (packed_steps l.packed) ≡ map (step_at l.terms) (packed_steps l.fn.packed);
}

abbrev pub decreases-loop-step : goal.decreases-loop-step
decreases-loop-step l = vec_len l.packed
