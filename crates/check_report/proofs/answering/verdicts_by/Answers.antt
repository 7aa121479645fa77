use Rattle.std.proofs.Common.{◌∙◌, ap, map}
use Rattle.std.specs.Arc.{arc_value}
use Rattle.tableau.specs.Settled.{Settled}
use Rattle.check_report.proofs.Answered.{verdicts_by_answers, answered_starves}
use Rattle.check_report.proofs.answering.verdicts_by.Goals as goal

pub returns-in-Err-verdicts_of-clause-memory : goal.returns-in-Err-verdicts_of-clause-memory
returns-in-Err-verdicts_of-clause-memory g c = answered_starves c.args.turns c.args.procs.now _ _ c.in-Ok.ensures.calls

pub returns-clause-verdicts : goal.returns-clause-verdicts
returns-clause-verdicts g c = c.in-Ok-verdicts_of.ensures ∙ (ap (map (λ a. (arc_value {X = Settled} a).verdict)) c.deref.ensures.value ∙ verdicts_by_answers (arc_value {X = Settled}) c.args.turns c.args.procs.now c.in-Ok.answers.items c.in-Ok.ensures.answers)
