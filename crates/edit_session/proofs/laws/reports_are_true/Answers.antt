use Rattle.edit_session.proofs.TrueReports.{reports_are_true as law}
use Rattle.edit_session.proofs.StaySpelled.{edits_stay_spelled}
use Rattle.edit_session.proofs.laws.reports_are_true.Goals as goal

pub returns : goal.returns
returns c = law c.declared_correct_is_safe.ensures edits_stay_spelled
