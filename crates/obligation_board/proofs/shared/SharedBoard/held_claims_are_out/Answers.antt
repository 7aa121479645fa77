use Rattle.obligation_board.proofs.Held.{held_are_out}
use Rattle.obligation_board.proofs.shared.SharedBoard.held_claims_are_out.Goals as goal

pub returns : goal.returns
returns g c = held_are_out _ _
