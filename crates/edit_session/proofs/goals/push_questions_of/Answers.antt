use Rattle.std.proofs.Common.{◌∙◌, ◌++◌, ap, map}
use Rattle.std.specs.Arc.{arc_value}
use Rattle.edit_session.proofs.SharedGoals.{asked_the_same}
use Rattle.edit_session.proofs.goals.push_questions_of.Goals as goal

pub returns : goal.returns
returns c = c.in_ok-push_questions.ensures ∙ ap (λ qs. map arc_value c.args.found.now.items ++ qs) (asked_the_same c.args.turns c.shared.result.now c.args.proc.now.goals c.shared.ensures)
