use Rattle.smoke_report.proofs.Unreached.{valid_unreached}
use Rattle.smoke_report.proofs.laws.valid_points_are_unreached.Goals as goal

pub returns : goal.returns
returns c = valid_unreached c.with_point_stays_typed.ensures c.with_point_goes_forward.ensures c.failures_have_goals.ensures
