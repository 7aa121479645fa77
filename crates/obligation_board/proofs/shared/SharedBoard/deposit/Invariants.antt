use Rattle.std.proofs.Common.{Some}
use Rattle.std.specs.Arc.{arc_value}
use Rattle.board_core.specs.Board.{deposit, deposited}
use Rattle.board_core.specs.Handed.{ticket}
use Rattle.obligation_board.proofs.shared.SharedBoard.deposit.Given as goal

abbrev pub ghosts-finish_deposit : goal.ghosts-finish_deposit
ghosts-finish_deposit g a = record { what = Some record { event = deposit (ticket g.A.Q.Question.key a.claim.now.value) (arc_value a.answer.now.value); reply = deposited a.present } }
