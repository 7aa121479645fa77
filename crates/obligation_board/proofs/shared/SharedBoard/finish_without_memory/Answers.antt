use Rattle.std.proofs.Common.{refl}
use Rattle.board_core.specs.Board.{no_memory, memory}
use Rattle.obligation_board.proofs.shared.SharedBoard.finish_without_memory.Goals as goal

pub returns-clause-call : goal.returns-clause-call
returns-clause-call g c = (c.finish.result, c.finish.ensures.call no_memory memory refl)
