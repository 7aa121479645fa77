use Rattle.edit_session.proofs.WorthOfSessions.{sessions_are_worth as law}
use Rattle.edit_session.proofs.laws.sessions_are_worth.Goals as goal

pub returns : goal.returns
returns c = law c.taken_is_left.ensures c.reports_are_true.ensures
