use Rattle.std.proofs.Common.{◌∙◌, ap, subst, sum, sym, List}
use Rattle.goal_board.proofs.ByItself.{on_any_err}
use Rattle.vc_build.specs.Rebuild.{BuiltProc}
use Rattle.vc_rebuild.specs.Change.{AreButOne}
use Rattle.edit_session.specs.Built.{goal_counts, questions_of}
use Rattle.edit_session.proofs.Parts.{many_questions}
use Rattle.edit_session.proofs.Programs.{questions_by}
use Rattle.edit_session.proofs.Calls.{opened_told}
use Rattle.edit_session.proofs.board_calls.open_goals.Goals as goal

pub open_changed-requires-clause-place : goal.open_changed-requires-clause-place
open_changed-requires-clause-place g c =
    subst (λ (bs : List BuiltProc). AreButOne c.args.place bs c.procs-3.result.now) (sym c.procs-2.ensures) (subst (AreButOne c.args.place c.args.old.now.procs) (sym c.procs-3.ensures) c.requires.place)

pub returns-in_err-opened-clause-memory : goal.returns-in_err-opened-clause-memory
returns-in_err-opened-clause-memory g c = on_any_err c.from_residual.result c.in_err-opened.ensures.memory

pub returns-clause-opened : goal.returns-clause-opened
returns-clause-opened g c m procs =
    opened_told _ _ _ _ _ c.args.turns m c.args.rebuilt (questions_of c.args.turns c.procs-3.result.now) c.count-goals.result c.in_ok-opened.opened.version c.in_ok-opened.opened.done
    (ap (questions_of c.args.turns) c.procs-3.ensures ∙ questions_by c.args.turns m c.args.new.now.procs procs)
    (c.count-goals.ensures ∙ ap (λ bs. sum (goal_counts bs)) (c.procs.ensures ∙ sym c.procs-3.ensures) ∙ many_questions c.args.turns c.procs-3.result.now) c.in_ok-opened.ensures.opened
