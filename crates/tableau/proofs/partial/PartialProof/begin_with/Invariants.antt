use Rattle.std.proofs.Common.{◌≡◌, ◌++◌, reverse, vec_len}
use Rattle.tableau.proofs.partial.PartialProof.begin_with.Given as goal

abbrev pub invariant-loop-step : goal.invariant-loop-step
invariant-loop-step l = record {
  steps : l.steps.items ++ reverse l.partial.steps.items ≡ l.fn.steps.items ++ reverse l.initial.partial.steps.items;
  end : l.partial.end ≡ l.initial.partial.end;
}

abbrev pub decreases-loop-step : goal.decreases-loop-step
decreases-loop-step l = vec_len l.steps
