use Rattle.report_laws.proofs.CorrectProcs.{declared_correct_is_safe as law}
use Rattle.report_laws.proofs.laws.declared_correct_is_safe.Goals as goal

pub returns : goal.returns
returns c = law c.correct_is_proved.ensures c.finds_accepted.ensures c.finds_where_proved.ensures c.goals_are_sorted.ensures c.proved_goals_are_valid.ensures c.declared_modules_are_sound.ensures c.valid_goals_are_safe.ensures
