use Rattle.std.proofs.Common.{subst}
use Rattle.request_text.specs.RequestView.{request_view, IsAnswer}
use Rattle.edit_session.proofs.Answering.{as_wanted, bad_goes, no_later}
use Rattle.edit_session.proofs.session.Session.reply.Goals as goal

pub returns-in-Ok-clause-answered : goal.returns-in-Ok-clause-answered
returns-in-Ok-clause-answered g c w e = as_wanted _ _ _ w (request_view c.in-Ok.request) (subst (IsAnswer w) c.in-Ok.is e) c.reply_to.ensures.answered

pub returns-in-Err-clause-answered : goal.returns-in-Err-clause-answered
returns-in-Err-clause-answered g c w e = bad_goes _ c.in-Err.why w (subst (IsAnswer w) c.in-Err.is e)

pub returns-in-Err-clause-later : goal.returns-in-Err-clause-later
returns-in-Err-clause-later g c = no_later _
