use Rattle.std.proofs.Common.{◌≡◌, ◌++◌, map, take}
use Rattle.std.specs.Arc.{arc_value}
use Rattle.check_report.specs.Questions.{question_on}
use Rattle.check_report.proofs.questions.push_questions.Given as goal

abbrev pub invariant-loop-goal : goal.invariant-loop-goal
invariant-loop-goal l = map arc_value l.found.items ≡ map arc_value l.fn.found.items ++ map (question_on l.turns) (take l.goal-index l.goals)
