use Rattle.std.proofs.Common.{refl, ◌∙◌}
use Rattle.board_core.specs.Board.{Call, close, closed_now}
use Rattle.board_core.specs.Step.{reply}
use Rattle.obligation_board.proofs.Ending.{of_caller, claims_after}
use Rattle.obligation_board.proofs.shared.SharedBoard.close.Goals as goal

pub returns-clause-call : goal.returns-clause-call
returns-clause-call g c =
    let k : Call g.row.A.Denot = record { event = close; reply = reply c.enter-turn.result.was.value.board (close) } in
    let k' : Call g.row.A.Denot = record { event = close; reply = closed_now } in
    of_caller _ _ c.args.opener.now c.enter-turn.new.pass c.finish-place.new.pass k k' c.finish-place.result c.enter-turn.ensures.pass
    (refl)
    (c.finish-place.ensures.call k.event k.reply refl)

pub returns-clause-claims : goal.returns-clause-claims
returns-clause-claims g c = claims_after _ _ c.args.opener.now c.finish-place.new.pass (close) c.finish-place.result (closed_now) (c.finish-place.ensures.pass.1 ∙ c.enter-turn.ensures.pass.0.1) (returns-clause-call g c)
