use Rattle.obligation_board.proofs.Deciding.{openers_decide}
use Rattle.obligation_board.proofs.shared.SharedBoard.the_opener_decides.Goals as goal

pub returns : goal.returns
returns g c = openers_decide _ _
