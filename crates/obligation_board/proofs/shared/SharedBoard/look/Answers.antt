use Rattle.std.proofs.Common.{refl, sym, ap, ◌∙◌}
use Rattle.board_core.specs.Board.{Reply, Call, look}
use Rattle.board_core.specs.Step.{reply}
use Rattle.board_core.specs.Handed.{look_answer}
use Rattle.obligation_board.specs.declared.posted.Posted.{Posted}
use Rattle.obligation_board.proofs.Ending.{of_caller, claims_after}
use Rattle.obligation_board.proofs.shared.SharedBoard.look.Goals as goal

pub returns-clause-call : goal.returns-clause-call
returns-clause-call g c =
    let k : Call g.row.A.Denot = record { event = look; reply = reply c.enter-turn.result.was.value.board (look) } in
    let k' : Call g.row.A.Denot = record { event = look; reply = look_answer c.look-reply.result } in
    of_caller _ _ c.args.pass.now c.enter-turn.new.pass c.finish-place.new.pass k k' c.finish-place.result c.enter-turn.ensures.pass
    (ap (λ (r : Reply g.row.A.Denot). record { event = look; reply = r }) (ap (λ (x : Posted g.row.A.Denot g.row.A-Q.Denot). reply x.board (look)) (c.enter-turn.ensures.turn.1 ∙ sym c.state-posted.ensures.value) ∙ sym c.look-reply.ensures.1))
    (c.finish-place.ensures.call k.event k.reply refl)

pub returns-clause-claims : goal.returns-clause-claims
returns-clause-claims g c = claims_after _ _ c.args.pass.now c.finish-place.new.pass (look) c.finish-place.result (look_answer c.look-reply.result) (c.finish-place.ensures.pass.1 ∙ c.enter-turn.ensures.pass.0.1) (returns-clause-call g c)
