use Rattle.std.proofs.Common.{◌≡◌, ◌∙◌, ap}
use Rattle.edit_session.specs.Answers.{new_session}
use Rattle.edit_session.specs.Kept.{Session}
use Rattle.edit_session.proofs.Served.{new_with, serves_from}
use Rattle.edit_session.proofs.line_session.serve_in.Goals as goal

pub returns-in-Ok-clause-serves : goal.returns-in-Ok-clause-serves
returns-in-Ok-clause-serves g c =
    let begins : c.new-answerer.result ≡ new_with c.args.turns g.B.GoalBoard.workers = c.new-answerer.ensures ∙ c.in-Ok.ensures.new ∙ ap (λ n. record { turns = c.args.turns; workers = g.B.GoalBoard.workers; state = new_session; noted = n }) c.requires.unnoted in
    serves_from c.reports_are_true.ensures c.args.turns g.B.GoalBoard.workers c.new-answerer.result c.serve-ending.new.answerer (g.B.GoalBoard.noted c.end.result) _ _ _ _ c.serve-ending.result
    begins c.end.ensures c.serve-ending.ensures.ends
