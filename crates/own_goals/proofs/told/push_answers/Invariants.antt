use Rattle.std.proofs.Common.{◌≡◌, ◌++◌, map, take}
use Rattle.std.specs.Arc.{arc_value}
use Rattle.own_goals.proofs.told.push_answers.Given as goal

abbrev pub invariant-loop-answer : goal.invariant-loop-answer
invariant-loop-answer l = map arc_value l.all.items ≡ map arc_value l.fn.all.items ++ map arc_value (take l.answer-index l.answers)
