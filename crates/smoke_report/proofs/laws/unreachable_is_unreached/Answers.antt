use Rattle.smoke_report.proofs.Shown.{unreachable_is_unreached}
use Rattle.smoke_report.proofs.laws.unreachable_is_unreached.Goals as goal

pub returns : goal.returns
returns c = unreachable_is_unreached c.with_point_stays_typed.ensures c.with_point_goes_forward.ensures c.valid_points_are_unreached.ensures c.goals_are_sorted.ensures c.acceptance_is_sound.ensures c.finds_accepted.ensures c.finds_where_proved.ensures
