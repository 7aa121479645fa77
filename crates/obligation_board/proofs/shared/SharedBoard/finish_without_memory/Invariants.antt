use Rattle.std.proofs.Common.{Some}
use Rattle.board_core.specs.Board.{no_memory, memory}
use Rattle.obligation_board.proofs.shared.SharedBoard.finish_without_memory.Given as goal

abbrev pub ghosts-finish : goal.ghosts-finish
ghosts-finish g a = record { what = Some record { event = no_memory; reply = memory } }
