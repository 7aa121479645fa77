use Rattle.std.proofs.Common.{Some}
use Rattle.board_core.specs.Board.{open_keys}
use Rattle.board_core.specs.Step.{reply}
use Rattle.obligation_board.proofs.shared.SharedBoard.open.Given as goal

abbrev pub ghosts-finish : goal.ghosts-finish
ghosts-finish g a = let e = open_keys a.turn.state.board.present in record { what = Some record { event = e; reply = reply a.turn.was.value.board e } }
