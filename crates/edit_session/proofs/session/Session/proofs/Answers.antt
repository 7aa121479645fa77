use Rattle.std.proofs.Common.{sym, subst}
use Rattle.edit_session.specs.Kept.{HasRoom}
use Rattle.edit_session.proofs.Sessions.{has_claims, worked_later, proved_ready, proved_goes}
use Rattle.edit_session.proofs.session.Session.proofs.Goals as goal

pub prove_goals-requires-clause-room : goal.prove_goals-requires-clause-room
prove_goals-requires-clause-room g c =
    let i = c.self.inside in
    has_claims i.turns _ i.opened.decls i.opened.typed c.has_module.ensures i.version _ _ c.self.invariant (subst HasRoom (sym c.self.view_is) c.requires)

pub invariant_of-self : goal.invariant_of-self
invariant_of-self g c =
    let i = c.self.inside in
    proved_ready i.turns _ i.opened.decls i.opened.typed c.has_module.ensures i.version _ _ c.self.invariant _ _ c.prove_goals.result c.prove_goals.ensures.proved c.prove_goals.ensures.memory

pub returns-clause-answered : goal.returns-clause-answered
returns-clause-answered g c =
    let i = c.self.inside in
    rw (← c.self.view_is) (proved_goes i.turns _ i.opened.decls i.opened.typed c.has_module.ensures i.version _ _ c.self.invariant _ _ c.prove_goals.result c.prove_goals.ensures.proved c.prove_goals.ensures.memory)

pub returns-clause-later : goal.returns-clause-later
returns-clause-later g c =
    let i = c.self.inside in
    rw (← c.self.view_is) (worked_later i.turns _ i.opened.decls i.opened.typed c.has_module.ensures i.version _ _ c.self.invariant _ _ c.prove_goals.ensures.claims)
