use Rattle.recheck_report.proofs.SafeAnswers.{accepted_is_safe as law}
use Rattle.recheck_report.proofs.laws.accepted_is_safe.Goals as goal

pub returns : goal.returns
returns c = law c.refuses_the_others.ensures c.proved_goals_are_valid.ensures c.modules_are_sound.ensures c.programs_are_sound.ensures
