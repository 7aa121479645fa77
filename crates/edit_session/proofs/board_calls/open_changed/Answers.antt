use Rattle.std.proofs.Common.{◌-◌, ◌^◌, ◌<◌, sym, subst}
use Rattle.goal_board.specs.Calls.{Board}
use Rattle.goal_board.proofs.ByItself.{on_any_err}
use Rattle.edit_session.proofs.Declined.{none_so, some_so, made_from, undone_from}
use Rattle.edit_session.proofs.board_calls.open_changed.Goals as goal

pub returns-in_err-between-clause-memory : goal.returns-in_err-between-clause-memory
returns-in_err-between-clause-memory g c = on_any_err c.from_residual.result c.in_err-between.ensures.memory

pub returns-in-Some-clause-opened : goal.returns-in-Some-clause-opened
returns-in-Some-clause-opened g c = some_so _ c.in_ok-between.between c.in-Some.opened c.in-Some.is c.in_ok-between.ensures.opened

pub open_all-requires : goal.open_all-requires
open_all-requires g c =
    let same = none_so c.in_ok-between.between c.in-None.is c.in_ok-between.ensures.same in
    λ none. subst (λ (b : Board). b.version < 2 ^ 64 - 1) (sym same.0) (c.requires.room none)

pub returns-in_err-opened-in-None-clause-memory : goal.returns-in_err-opened-in-None-clause-memory
returns-in_err-opened-in-None-clause-memory g c =
    let same = none_so c.in_ok-between.between c.in-None.is c.in_ok-between.ensures.same in
    on_any_err c.from_residual-in_err-opened-in-None.result (undone_from _ _ _ _ _ _ _ same.0 same.1 c.in_err-opened-in-None.ensures.memory)

pub returns-in_ok-opened-in-None-clause-opened : goal.returns-in_ok-opened-in-None-clause-opened
returns-in_ok-opened-in-None-clause-opened g c =
    let same = none_so c.in_ok-between.between c.in-None.is c.in_ok-between.ensures.same in
    made_from _ _ _ _ _ _ _ same.0 same.1 _ c.in_ok-opened-in-None.ensures.opened
