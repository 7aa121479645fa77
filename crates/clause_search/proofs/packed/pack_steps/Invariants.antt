use Rattle.std.proofs.Common.{◌≡◌, ◌++◌, map, reverse, vec_len}
use Rattle.numbered_branches.specs.StepView.{step_seen}
use Rattle.clause_search.specs.Packed.{packed_step}
use Rattle.clause_search.proofs.packed.pack_steps.Given as goal

abbrev pub invariant-loop-step : goal.invariant-loop-step
invariant-loop-step l = map step_seen l.steps.items ++ map packed_step (reverse l.packed.items) ≡ map step_seen l.fn.steps.items

abbrev pub decreases-loop-step : goal.decreases-loop-step
decreases-loop-step l = vec_len l.steps
