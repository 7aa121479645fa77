use Rattle.std.proofs.Common.{◌≡◌, drop}
use Rattle.proof_core.specs.View.{steps_of}
use Rattle.proof_text.specs.Reading.{steps_fit}
use Rattle.proof_text.proofs.ranges.steps_fit.Given as goal

-- all fit where those that are left do
abbrev pub invariant-loop-step : goal.invariant-loop-step
invariant-loop-step l = steps_fit (steps_of (drop l.step-index l.steps)) ≡ steps_fit (steps_of l.steps)
