use Rattle.std.specs.Arc.{arc_value}
use Rattle.goal_board.proofs.ByItself.{on_any_err}
use Rattle.goal_board.proofs.Making.{settled_are_work}
use Rattle.edit_session.specs.Program.{questions}
use Rattle.edit_session.proofs.Calls.{proved_told}
use Rattle.edit_session.proofs.board_calls.prove_goals.Goals as goal

pub returns-in_err-lines-clause-memory : goal.returns-in_err-lines-clause-memory
returns-in_err-lines-clause-memory g c = on_any_err c.from_residual-in_err-lines.result (settled_are_work _ _ _ _ _ _ c.in_ok-answers.ensures.settled)

pub returns-clause-proved : goal.returns-clause-proved
returns-clause-proved g c =
    let m = c.args.program.now.typed in
    let lines = rw c.deref.ensures.value at c.in_ok-lines.ensures in
    proved_told _ _ _ _ _ c.args.turns m arc_value c.in_ok-answers.answers.items _ c.args.version c.in_ok-answers.ensures.settled c.in_ok-answers.ensures.kept
    (c.in_ok-answers.ensures.answers (questions c.args.turns m) c.requires.goals) lines
