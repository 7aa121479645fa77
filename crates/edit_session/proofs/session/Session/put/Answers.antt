use Rattle.std.proofs.Common.{sym, subst}
use Rattle.program_edits.specs.Replaced.{with_replacements}
use Rattle.edit_session.specs.Kept.{HasRoom}
use Rattle.edit_session.proofs.OnePut.{put_goes, unput_same, unput_ready}
use Rattle.edit_session.proofs.Sessions.{session, opened_later, opened_ready}
use Rattle.edit_session.proofs.Unchanged.{board_room}
use Rattle.edit_session.proofs.session.Session.put.Goals as goal

pub revise-requires-clause-room : goal.revise-requires-clause-room
revise-requires-clause-room g c =
    let i = c.self.inside in
    let room : HasRoom (session i.turns _ i.opened.decls i.version _ _) = subst HasRoom (sym c.self.view_is) c.requires.room in
    board_room i.turns _ i.version i.opened.typed _ c.self.invariant room.version

pub revise-requires-clause-goals : goal.revise-requires-clause-goals
revise-requires-clause-goals g c = c.self.invariant.goals

pub invariant_of-self : goal.invariant_of-self
invariant_of-self g c =
    let i = c.self.inside in
    opened_ready i.turns _ _ c.revise.new.self i.version _ _ _ _ _ c.self.invariant.version c.in-Ok.ensures.opened c.self.invariant.unclosed

pub invariant_of-self-in-Err : goal.invariant_of-self-in-Err
invariant_of-self-in-Err g c =
    let i = c.self.inside in
    unput_ready i.turns _ i.opened c.revise.new.self i.version _ _ _ _ c.self.invariant c.in-Err.ensures.same c.in-Err.ensures.board

pub returns-in-Ok-clause-answered : goal.returns-in-Ok-clause-answered
returns-in-Ok-clause-answered g c =
    let i = c.self.inside in
    rw (← c.self.view_is) (put_goes i.turns _ i.opened c.revise.new.self i.version _ _ _ _ _ (with_replacements i.opened.decls c.args.replacements.items) c.self.invariant.version c.has_module.ensures c.in-Ok.ensures.decls c.in-Ok.ensures.is_module c.in-Ok.ensures.opened)

pub returns-in-Ok-clause-later : goal.returns-in-Ok-clause-later
returns-in-Ok-clause-later g c =
    let i = c.self.inside in
    rw (← c.self.view_is) (opened_later i.turns _ _ c.revise.new.self i.version _ _ _ _ _ c.self.invariant.version c.in-Ok.ensures.opened i.opened.decls)

pub returns-in-Err-clause-same : goal.returns-in-Err-clause-same
returns-in-Err-clause-same g c =
    let i = c.self.inside in
    rw (← c.self.view_is) (unput_same i.turns _ i.opened c.revise.new.self i.version _ _ _ _ c.in-Err.ensures.same c.in-Err.ensures.board)
