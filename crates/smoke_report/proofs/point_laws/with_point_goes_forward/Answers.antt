use Rattle.smoke_report.proofs.GoesForward.{with_point_goes_forward}
use Rattle.smoke_report.proofs.point_laws.with_point_goes_forward.Goals as goal

pub returns : goal.returns
returns c = with_point_goes_forward
