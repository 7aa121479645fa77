use Rattle.std.specs.Arc.{arc_value}
use Rattle.check_report.specs.Questions.{questions_on}
use Rattle.check_report.proofs.Answered.{keys_are, none_made, none_opened, are_present, worked, answered}
use Rattle.check_report.proofs.answering.answers_on.Goals as goal

pub returns-in-Err-clause-memory : goal.returns-in-Err-clause-memory
returns-in-Err-clause-memory g c = none_made c.args.turns c.args.procs.now _

pub returns-in-Err-open-clause-memory : goal.returns-in-Err-open-clause-memory
returns-in-Err-open-clause-memory g c = none_opened c.args.turns c.args.procs.now g.B.GoalBoard.workers _ _ _ _ c.requires.shared c.in-Err-open.ensures.memory

pub returns-in-Err-settle-clause-memory : goal.returns-in-Err-settle-clause-memory
returns-in-Err-settle-clause-memory g c =
    worked c.args.turns c.args.procs.now g.B.GoalBoard.workers c.requires.shared _ _ _ _ _ _ (keys_are arc_value _ c.in-Ok.questions.items c.in-Ok.ensures) c.in-Ok-open.ensures.opened _ _ c.in-Err-settle.ensures.memory

pub returns-in-Ok-settle-clause-answers : goal.returns-in-Ok-settle-clause-answers
returns-in-Ok-settle-clause-answers g c =
    c.in-Ok-settle.ensures.answers (questions_on c.args.turns c.args.procs.now)
    (are_present c.args.turns c.args.procs.now g.B.GoalBoard.workers c.requires.shared _ _ _ _ _ _ (keys_are arc_value _ c.in-Ok.questions.items c.in-Ok.ensures) c.in-Ok-open.ensures.opened c.others_decide_nothing.ensures)

pub returns-in-Ok-settle-clause-calls : goal.returns-in-Ok-settle-clause-calls
returns-in-Ok-settle-clause-calls g c =
    answered c.args.turns c.args.procs.now g.B.GoalBoard.workers c.requires.shared _ _ _ _ _ _ (keys_are arc_value _ c.in-Ok.questions.items c.in-Ok.ensures) c.in-Ok-open.ensures.opened _ _ _ c.in-Ok-settle.ensures.settled
    (c.in-Ok-settle.ensures.answers (questions_on c.args.turns c.args.procs.now)
    (are_present c.args.turns c.args.procs.now g.B.GoalBoard.workers c.requires.shared _ _ _ _ _ _ (keys_are arc_value _ c.in-Ok.questions.items c.in-Ok.ensures) c.in-Ok-open.ensures.opened c.others_decide_nothing.ensures))
