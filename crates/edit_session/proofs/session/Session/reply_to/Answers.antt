use Rattle.edit_session.proofs.Answering.{quit_line}
use Rattle.edit_session.proofs.session.Session.reply_to.Goals as goal

pub returns-in-Quit-clause-answered : goal.returns-in-Quit-clause-answered
returns-in-Quit-clause-answered g c = rw c.in-Quit.is (quit_line _)
