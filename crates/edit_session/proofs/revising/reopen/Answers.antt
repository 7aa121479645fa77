use Rattle.std.proofs.Common.{◌∙◌}
use Rattle.goal_board.proofs.ByItself.{on_any_err}
use Rattle.edit_session.proofs.ChangedGoals.{few_built}
use Rattle.edit_session.proofs.Programs.{few_within, procs_are}
use Rattle.edit_session.proofs.Revised.{as_many_new}
use Rattle.edit_session.proofs.Unchanged.{undone_none}
use Rattle.edit_session.proofs.revising.reopen.Goals as goal

pub returns-in_err-new-clause-board : goal.returns-in_err-new-clause-board
returns-in_err-new-clause-board g c = on_any_err c.from_residual.result (undone_none _ _ _)

pub open_goals-requires-clause-few : goal.open_goals-requires-clause-few
open_goals-requires-clause-few g c =
    let new = c.in_ok-new.ensures in
    few_built c.args.typed.now _ (procs_are c.args.typed.now _ new.goals) (few_within c.args.typed.now new.within)

pub returns-clause-opened : goal.returns-clause-opened
returns-clause-opened g c =
    let m = c.args.typed.now in
    let new = c.in_ok-new.ensures in
    record {
      within = new.within;
      are_built = new.goals;
      opened = as_many_new _ _ _ _ _ c.args.turns m _ _ _ (c.rebuilt.ensures ∙ new.rebuilt) (c.in_ok-reply.ensures.opened m (procs_are m _ new.goals));
    }
