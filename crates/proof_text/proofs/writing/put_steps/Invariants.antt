use Rattle.std.proofs.Common.{◌≡◌, ◌++◌, drop}
use Rattle.proof_core.specs.View.{steps_of}
use Rattle.proof_text.specs.Text.{steps_text}
use Rattle.proof_text.proofs.writing.put_steps.Given as goal

-- what is written, and then the texts of the rest, are the texts of all
abbrev pub invariant-loop-step : goal.invariant-loop-step
invariant-loop-step l = l.out.items ++ steps_text (steps_of (drop l.step-index l.steps)) ≡ l.fn.out.items ++ steps_text (steps_of l.steps)
