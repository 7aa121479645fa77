use Rattle.edit_session.proofs.AnsweredLines.{looks_answer_status}
use Rattle.edit_session.proofs.Sessions.{same_program, looked_ready, looked_later}
use Rattle.edit_session.proofs.session.Session.status.Goals as goal

pub invariant_of-self : goal.invariant_of-self
invariant_of-self g c = let i = c.self.inside in looked_ready i.turns _ i.opened.decls i.opened.typed i.version _ _ _ _ _ c.look-seen.ensures c.self.invariant

pub returns-clause-answered : goal.returns-clause-answered
returns-clause-answered g c =
    let i = c.self.inside in
    let seen = c.look-seen.result in
    rw (← c.self.view_is) (looks_answer_status _ _ seen.version seen.done seen.pending seen.closed (same_program i.turns _ i.opened.decls i.version _ _ _ _) c.look-seen.ensures)

pub returns-clause-later : goal.returns-clause-later
returns-clause-later g c = let i = c.self.inside in rw (← c.self.view_is) (looked_later i.turns _ i.opened.decls i.opened.typed i.version _ _ _ _ _ c.look-seen.ensures)
