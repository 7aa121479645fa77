use Rattle.board_core.specs.Board.{give_back, given_back}
use Rattle.board_core.specs.Handed.{ticket}
use Rattle.obligation_board.proofs.shared.SharedBoard.finish_give_back.Goals as goal

pub finish-requires-clause-call : goal.finish-requires-clause-call
finish-requires-clause-call g c = (give_back (ticket g.A.Q.Question.key c.args.claim.now.value), given_back, c.requires.said, c.requires.step, c.requires.held)

pub returns-clause-call : goal.returns-clause-call
returns-clause-call g c = c.finish.ensures.call (give_back (ticket g.A.Q.Question.key c.args.claim.now.value)) given_back c.requires.said
