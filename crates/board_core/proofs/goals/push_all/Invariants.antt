use Rattle.std.proofs.Common.{◌≡◌, ◌++◌, map, take}
use Rattle.std.specs.Arc.{arc_value}
use Rattle.board_core.proofs.goals.push_all.Given as goal

abbrev pub invariant-loop-question : goal.invariant-loop-question
invariant-loop-question g l = map (λ q. g.Q.Question.key (arc_value q)) l.all.items ≡ map (λ q. g.Q.Question.key (arc_value q)) l.fn.all.items ++ map (λ q. g.Q.Question.key (arc_value q)) (take l.question-index l.questions)
