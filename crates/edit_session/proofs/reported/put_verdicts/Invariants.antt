use Rattle.std.proofs.Common.{◌≡◌, map, take}
use Rattle.std.specs.Arc.{arc_value}
use Rattle.tableau.specs.Settled.{Settled}
use Rattle.tableau.specs.RunView.{verdict_of}
use Rattle.edit_session.proofs.reported.put_verdicts.Given as goal

abbrev pub invariant-loop-answer : goal.invariant-loop-answer
invariant-loop-answer l = map verdict_of l.verdicts.items ≡ map (λ a. (arc_value {X = Settled} a).verdict) (take l.answer-index l.answers)
