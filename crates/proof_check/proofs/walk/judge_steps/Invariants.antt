use Rattle.std.proofs.Common.{◌≡◌, drop}
use Rattle.proof_core.specs.View.{steps_of}
use Rattle.proof_core.specs.Verdict.{after_steps}
use Rattle.proof_check.specs.Added.{Extends}
use Rattle.proof_check.proofs.walk.judge_steps.Given as goal

abbrev pub invariant-loop-step : goal.invariant-loop-step
invariant-loop-step l = record {
  left : after_steps l.defs l.node l.context (steps_of (drop l.step-index l.steps)) ≡ after_steps l.defs l.fn.node l.fn.context (steps_of l.steps);
  more : Extends l.fn.context l.context;
}
