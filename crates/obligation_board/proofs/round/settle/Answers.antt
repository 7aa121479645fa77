use Rattle.std.proofs.Common.{◌<◌, [], ◌∷◌, length, refl, subst, arith}
use Rattle.std.specs.Arc.{arc_value}
use Rattle.turn_lock.specs.Lock.{mine}
use Rattle.board_core.specs.Board.{deposit, deposited}
use Rattle.board_core.specs.Handed.{ticket}
use Rattle.obligation_board.proofs.Working.{few_own, sees_more}
use Rattle.obligation_board.proofs.round.settle.Goals as goal

pub returns-in-Ok-clause-calls : goal.returns-in-Ok-clause-calls
returns-in-Ok-clause-calls g c =
    let a = arc_value c.in-Ok.answer in
    let n = c.deposit.result.reply in (
      record { event = deposit (ticket g.P.A.Q.Question.key c.args.claim) a; reply = deposited n } ∷ [],
      c.deposit.ensures.call.mine,
      (arc_value c.args.claim.question, a, n, refl, refl, refl, subst (λ x. g.P.Prover.gives c.args.prover.now (arc_value x) a) c.question.ensures c.in-Ok.ensures.given),
    )

pub returns-in-Ok-clause-room : goal.returns-in-Ok-clause-room
returns-in-Ok-clause-room g c =
    let few = few_own _ _ c.args.pass.now c.deposit.new.pass _ c.deposit.result.place _ c.deposit.ensures.call in
    omega (arith, few, c.deposit.type_inv)

pub returns-in-Ok-clause-seen : goal.returns-in-Ok-clause-seen
returns-in-Ok-clause-seen g c = sees_more _ _ c.args.pass.now c.deposit.new.pass _ c.deposit.result.place _ c.deposit.ensures.call

pub returns-in-Err-clause-seen : goal.returns-in-Err-clause-seen
returns-in-Err-clause-seen g c = sees_more _ _ c.args.pass.now c.give_back.new.pass _ c.give_back.result.place _ c.give_back.ensures.call
