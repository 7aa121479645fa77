use Rattle.report_laws.proofs.ProvedSafe.{proved_are_safe}
use Rattle.report_laws.proofs.generated_laws.proved_are_safe.Goals as goal

pub returns : goal.returns
returns c =
    proved_are_safe c.finds_accepted.ensures c.finds_where_proved.ensures c.goals_are_sorted.ensures c.proved_goals_are_valid.ensures c.modules_are_sound.ensures c.valid_goals_are_safe.ensures
