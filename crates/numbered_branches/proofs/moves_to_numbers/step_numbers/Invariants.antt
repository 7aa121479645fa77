use Rattle.std.proofs.Common.{map, take}
use Rattle.proof_core.specs.View.{steps_of}
use Rattle.numbered_terms.specs.Stored.{Grows}
use Rattle.numbered_branches.specs.Standing.{AreStepsAt}
use Rattle.numbered_branches.specs.StepView.{step_seen}
use Rattle.numbered_branches.proofs.moves_to_numbers.step_numbers.Given as goal

abbrev pub invariant-loop-step : goal.invariant-loop-step
invariant-loop-step l = record { grows : Grows l.fn.store l.store; done : AreStepsAt l.store.terms (map step_seen l.all.items) (steps_of (take l.step-index l.steps)) }
