use Rattle.std.proofs.Common.{◌∙◌, sym, ap, subst, map, []}
use Rattle.std.specs.Prelude.{◌∷◌}
use Rattle.std.specs.Arc.{arc_value}
use Rattle.obligation_text.specs.Asked.{key_of}
use Rattle.board_core.specs.Board.{open_keys}
use Rattle.board_core.specs.Handed.{open_answer}
use Rattle.goal_board.specs.Calls.{made}
use Rattle.goal_board.specs.Made.{AreMade}
use Rattle.goal_board.proofs.ByItself.{on_any_err}
use Rattle.report_laws.proofs.Mapped.{map_map}
use Rattle.edit_session.proofs.Unchanged.{undone_none, unopened}
use Rattle.edit_session.proofs.board_calls.open_all.Goals as goal

pub returns-in_err-questions-clause-memory : goal.returns-in_err-questions-clause-memory
returns-in_err-questions-clause-memory g c = on_any_err c.from_residual.result (undone_none _ _ _)

pub returns-in_err-opened-clause-memory : goal.returns-in_err-opened-clause-memory
returns-in_err-opened-clause-memory g c = on_any_err c.from_residual-in_err-opened.result (unopened _ _ _ _ _ c.in_err-opened.ensures.memory)

pub returns-clause-opened : goal.returns-clause-opened
returns-clause-opened g c =
    subst (λ ks. AreMade g.B.GoalBoard.workers (g.B.GoalBoard.state c.args.board.now) (g.B.GoalBoard.noted c.args.board.now) (g.B.GoalBoard.state c.«open».new.self) (g.B.GoalBoard.noted c.«open».new.self) (made (open_keys ks) (open_answer c.in_ok-opened.opened) ∷ []))
    (sym (map_map arc_value key_of c.in_ok-questions.questions.items) ∙ ap (map key_of) c.in_ok-questions.ensures) c.in_ok-opened.ensures.opened
