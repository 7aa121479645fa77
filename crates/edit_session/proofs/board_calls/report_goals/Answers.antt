use Rattle.std.proofs.Common.{◌∙◌, sym, ap, map}
use Rattle.std.specs.Arc.{arc_value}
use Rattle.tableau.specs.Settled.{settled_by}
use Rattle.goal_board.proofs.ByItself.{on_any_err}
use Rattle.goal_board.proofs.Making.{settled_are_work}
use Rattle.edit_session.specs.Program.{questions}
use Rattle.edit_session.proofs.Programs.{questions_by}
use Rattle.edit_session.proofs.Calls.{reported_told}
use Rattle.edit_session.proofs.board_calls.report_goals.Goals as goal

pub report_lines-requires : goal.report_lines-requires
report_lines-requires g c =
    let m = c.args.program.now.typed in
    c.in_ok-answers.ensures.answers (questions c.args.turns m) c.requires.goals ∙ ap (map settled_by) (sym (questions_by c.args.turns m c.procs.result.now c.procs.ensures))

pub returns-in_err-lines-clause-memory : goal.returns-in_err-lines-clause-memory
returns-in_err-lines-clause-memory g c = on_any_err c.from_residual-in_err-lines.result (settled_are_work _ _ _ _ _ _ c.in_ok-answers.ensures.settled)

pub returns-clause-reported : goal.returns-clause-reported
returns-clause-reported g c =
    let m = c.args.program.now.typed in
    reported_told _ _ _ _ _ c.args.turns m c.procs.result.now (map arc_value c.in_ok-answers.answers.items) _ c.args.version c.in_ok-answers.ensures.settled c.in_ok-answers.ensures.kept
    (c.in_ok-answers.ensures.answers (questions c.args.turns m) c.requires.goals) c.procs.ensures c.in_ok-lines.ensures
