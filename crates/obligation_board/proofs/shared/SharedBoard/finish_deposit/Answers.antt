use Rattle.std.specs.Arc.{arc_value}
use Rattle.board_core.specs.Board.{deposit, deposited}
use Rattle.board_core.specs.Handed.{ticket}
use Rattle.obligation_board.proofs.shared.SharedBoard.finish_deposit.Goals as goal

pub finish-requires-clause-call : goal.finish-requires-clause-call
finish-requires-clause-call g c = (deposit (ticket g.A.Q.Question.key c.args.claim.now.value) (arc_value c.args.answer.now.value), deposited c.args.present, c.requires.said, c.requires.step, (c.requires.held, c.requires.answer.0, c.requires.answer.1))

pub returns-clause-call : goal.returns-clause-call
returns-clause-call g c = c.finish.ensures.call (deposit (ticket g.A.Q.Question.key c.args.claim.now.value) (arc_value c.args.answer.now.value)) (deposited c.args.present) c.requires.said
