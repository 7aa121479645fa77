use Rattle.std.proofs.Common.{Some}
use Rattle.board_core.specs.Board.{close}
use Rattle.board_core.specs.Step.{reply}
use Rattle.obligation_board.proofs.shared.SharedBoard.close.Given as goal

abbrev pub ghosts-finish : goal.ghosts-finish
ghosts-finish g a = record { what = Some record { event = close; reply = reply a.turn.was.value.board close } }
