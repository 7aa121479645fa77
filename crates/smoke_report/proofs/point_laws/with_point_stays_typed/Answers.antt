use Rattle.smoke_report.proofs.StaysTyped.{with_point_stays_typed}
use Rattle.smoke_report.proofs.point_laws.with_point_stays_typed.Goals as goal

pub returns : goal.returns
returns c = with_point_stays_typed
