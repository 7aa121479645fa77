use Rattle.edit_session.proofs.LineSessions.{lines_make_a_session}
use Rattle.edit_session.proofs.line_laws.lines_make_a_session.Goals as goal

pub returns : goal.returns
returns c = lines_make_a_session
