use Rattle.std.proofs.Common.{◌≡◌, ◌++◌, map, take}
use Rattle.std.specs.Arc.{arc_value}
use Rattle.edit_session.specs.Program.{question}
use Rattle.edit_session.proofs.goals.push_questions.Given as goal

abbrev pub invariant-loop-goal : goal.invariant-loop-goal
invariant-loop-goal l = map arc_value l.found.items ≡ map arc_value l.fn.found.items ++ map (question l.turns) (take l.goal-index l.goals)
