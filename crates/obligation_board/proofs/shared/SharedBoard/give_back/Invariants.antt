use Rattle.std.proofs.Common.{Some}
use Rattle.board_core.specs.Board.{give_back, given_back}
use Rattle.board_core.specs.Handed.{ticket}
use Rattle.obligation_board.proofs.shared.SharedBoard.give_back.Given as goal

abbrev pub ghosts-finish_give_back : goal.ghosts-finish_give_back
ghosts-finish_give_back g a = record { what = Some record { event = give_back (ticket g.A.Q.Question.key a.claim.now.value); reply = given_back } }
