use Rattle.std.proofs.Common.{◌≡◌, take}
use Rattle.proof_core.specs.View.{steps_of}
use Rattle.proof_core.proofs.copy.copy_steps.Given as goal

abbrev pub invariant-loop-step : goal.invariant-loop-step
invariant-loop-step l = steps_of l.copies.items ≡ steps_of (take l.step-index l.steps)
