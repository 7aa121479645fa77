use Rattle.std.proofs.Common.{◌∙◌, sym, ap, subst, map}
use Rattle.std.proofs.lemmas.Result.{err_from_is_err_and}
use Rattle.edit_session.specs.Kept.{HasRoom}
use Rattle.obligation_text.specs.Asked.{key_of}
use Rattle.edit_session.proofs.Programs.{questions_by}
use Rattle.edit_session.proofs.Sessions.{session, opened_goes, opened_later, opened_ready}
use Rattle.edit_session.proofs.Unchanged.{board_room, still_ready, undone_session, memory_after, unchanged_later}
use Rattle.edit_session.proofs.session.Session.open_program.Goals as goal

pub open_goals-requires-clause-goals : goal.open_goals-requires-clause-goals
open_goals-requires-clause-goals g c =
    let i = c.self.inside in
    c.self.invariant.goals ∙ ap (map key_of) (sym (questions_by i.turns i.opened.typed c.built.result.now.procs c.built.ensures.goals))

pub open_goals-requires-clause-few : goal.open_goals-requires-clause-few
open_goals-requires-clause-few g c = c.built-2.ensures.few

pub open_goals-requires-clause-room : goal.open_goals-requires-clause-room
open_goals-requires-clause-room g c =
    let i = c.self.inside in
    let room : HasRoom (session i.turns _ i.opened.decls i.version _ _) = subst HasRoom (sym c.self.view_is) c.requires in
    board_room i.turns _ i.version i.opened.typed _ c.self.invariant room.version

pub invariant_of-self : goal.invariant_of-self
invariant_of-self g c = let i = c.self.inside in still_ready i.turns _ i.version i.opened.typed _ _ _ _ c.self.invariant c.in_err-reply.ensures.memory

pub invariant_of-self-2 : goal.invariant_of-self-2
invariant_of-self-2 g c =
    let i = c.self.inside in
    opened_ready i.turns _ c.args.rebuilt c.args.program i.version _ _ _ _ _ c.self.invariant.version (c.in_ok-reply.ensures.opened c.args.program.typed c.built-2.ensures.goals) c.self.invariant.unclosed

pub returns-in_err-reply-clause-answered : goal.returns-in_err-reply-clause-answered
returns-in_err-reply-clause-answered g c r m is new asks =
    let i = c.self.inside in
    let p = err_from_is_err_and c.from_residual.result c.from_residual.ensures.1 in
    rw (p.1, ← c.self.view_is) (memory_after _ _ _ (undone_session i.turns _ i.opened.decls i.version _ _ _ _ c.in_err-reply.ensures.memory))

pub returns-in_err-reply-clause-later : goal.returns-in_err-reply-clause-later
returns-in_err-reply-clause-later g c =
    let i = c.self.inside in
    rw (← c.self.view_is) (unchanged_later _ _ (undone_session i.turns _ i.opened.decls i.version _ _ _ _ c.in_err-reply.ensures.memory))

pub returns-clause-answered : goal.returns-clause-answered
returns-clause-answered g c r m =
    let i = c.self.inside in
    rw (← c.self.view_is) (opened_goes i.turns _ c.args.rebuilt c.args.program i.version _ _ _ _ _ c.self.invariant.version (c.in_ok-reply.ensures.opened c.args.program.typed c.built-2.ensures.goals) i.opened.decls r m)

pub returns-clause-later : goal.returns-clause-later
returns-clause-later g c =
    let i = c.self.inside in
    rw (← c.self.view_is) (opened_later i.turns _ c.args.rebuilt c.args.program i.version _ _ _ _ _ c.self.invariant.version (c.in_ok-reply.ensures.opened c.args.program.typed c.built-2.ensures.goals) i.opened.decls)
