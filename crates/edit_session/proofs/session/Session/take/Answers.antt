use Rattle.std.proofs.Common.{sym, subst}
use Rattle.std.proofs.lemmas.Result.{err_from_is_err_and}
use Rattle.vc_build.specs.Rebuild.{built}
use Rattle.request_text.specs.ReplyView.{reply_view}
use Rattle.edit_session.specs.Asking.{taken, denied}
use Rattle.edit_session.specs.Judged.{IsJudged}
use Rattle.edit_session.specs.Kept.{HasRoom}
use Rattle.edit_session.proofs.Answering.{without_memory, refused_line, no_later}
use Rattle.edit_session.proofs.Programs.{edited_asks}
use Rattle.edit_session.proofs.Sessions.{session}
use Rattle.edit_session.proofs.session.Session.take.Goals as goal

pub returns-in_err-judged-clause-answered : goal.returns-in_err-judged-clause-answered
returns-in_err-judged-clause-answered g c r edit =
    let p = err_from_is_err_and c.from_residual.result c.from_residual.ensures.1 in
    rw (p.1, ← c.self.view_is) (without_memory _ _)

pub returns-in_err-judged-clause-later : goal.returns-in_err-judged-clause-later
returns-in_err-judged-clause-later g c = rw (← c.self.view_is) (no_later _)

pub open_program-requires : goal.open_program-requires
open_program-requires g c = subst HasRoom (sym c.self.view_is) c.requires.room

pub returns-in-Taken-clause-answered : goal.returns-in-Taken-clause-answered
returns-in-Taken-clause-answered g c =
    let i = c.self.inside in
    let judged = subst (IsJudged (built i.opened.typed) c.args.decls.items) c.in-Taken.is c.in_ok-judged.ensures in
    rw (← c.self.view_is) (λ r edit. c.open_program.ensures.answered r i.opened.typed c.has_module.ensures judged.1 (edited_asks i.opened.decls c.args.decls.items r (taken c.in-Taken.program) edit judged.0))

pub returns-in-Taken-clause-later : goal.returns-in-Taken-clause-later
returns-in-Taken-clause-later g c = rw (← c.self.view_is) c.open_program.ensures.later

pub returns-in-Refused-clause-answered : goal.returns-in-Refused-clause-answered
returns-in-Refused-clause-answered g c =
    let i = c.self.inside in
    let judged = subst (IsJudged (built i.opened.typed) c.args.decls.items) c.in-Refused.is c.in_ok-judged.ensures in
    let x = reply_view c.in-Refused.reply in
    rw (← c.self.view_is) (λ r edit. refused_line (session i.turns _ i.opened.decls i.version _ _) r x (edited_asks i.opened.decls c.args.decls.items r (denied x) edit judged))

pub returns-in-Refused-clause-later : goal.returns-in-Refused-clause-later
returns-in-Refused-clause-later g c = rw (← c.self.view_is) (no_later _)
