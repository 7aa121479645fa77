use Rattle.std.proofs.Common.{sym, subst, ◌∙◌}
use Rattle.std.specs.Prelude.{Contains}
use Rattle.std.specs.Arc.{arc_value}
use Rattle.board_core.specs.Board.{Call, deposit, deposited}
use Rattle.board_core.specs.Handed.{ticket}
use Rattle.board_core.specs.declared.claim.Claim.{Claim}
use Rattle.obligation_board.specs.declared.posted.Posted.{Posted}
use Rattle.obligation_board.specs.Calls.{Holds}
use Rattle.obligation_board.proofs.Ending.{is_out, of_caller, holds_in_turn, claims_after}
use Rattle.obligation_board.proofs.shared.SharedBoard.deposit.Goals as goal

pub deposit-reply-requires-clause-out : goal.deposit-reply-requires-clause-out
deposit-reply-requires-clause-out g c =
    let fit = c.enter-turn.ensures.fitting in
    let t = ticket g.A.Q.Question.key c.args.claim in
    subst (λ (x : Posted g.row.A.Denot g.row.A-Q.Denot). Contains x.board.out t) (c.enter-turn.ensures.turn.1 ∙ sym c.state-posted.ensures.value)
    (is_out _ _ c.enter-turn.new.pass c.enter-turn.result.was.value.board fit.0 t fit.1.0 fit.1.2 (holds_in_turn c.args.pass.now c.enter-turn.new.pass t c.enter-turn.ensures.pass c.requires.held))

pub finish_deposit-place-requires-clause-held : goal.finish_deposit-place-requires-clause-held
finish_deposit-place-requires-clause-held g c =
    subst (λ (v : Claim g.row.A.Denot g.row.A-Q.Denot). Holds c.enter-turn.new.pass (ticket g.A.Q.Question.key v)) (sym c.of-claimed.ensures)
    (holds_in_turn c.args.pass.now c.enter-turn.new.pass (ticket g.A.Q.Question.key c.args.claim) c.enter-turn.ensures.pass c.requires.held)

pub returns-clause-call : goal.returns-clause-call
returns-clause-call g c =
    let k : Call g.row.A.Denot = record { event = deposit (ticket g.A.Q.Question.key c.of-claimed.result.value) (arc_value c.of-answered.result.value); reply = deposited c.deposit-reply.result } in
    let k' : Call g.row.A.Denot = record { event = deposit (ticket g.A.Q.Question.key c.args.claim) (arc_value c.args.answer); reply = deposited c.deposit-reply.result } in
    of_caller _ _ c.args.pass.now c.enter-turn.new.pass c.finish_deposit-place.new.pass k k' c.finish_deposit-place.result c.enter-turn.ensures.pass (λ i. record { event = deposit (ticket g.A.Q.Question.key (c.of-claimed.ensures i)) (arc_value (c.of-answered.ensures i)); reply = deposited c.deposit-reply.result }) c.finish_deposit-place.ensures.call

pub returns-clause-claims : goal.returns-clause-claims
returns-clause-claims g c = claims_after _ _ c.args.pass.now c.finish_deposit-place.new.pass (deposit (ticket g.A.Q.Question.key c.args.claim) (arc_value c.args.answer)) c.finish_deposit-place.result (deposited c.deposit-reply.result) (c.finish_deposit-place.ensures.pass.1 ∙ c.enter-turn.ensures.pass.0.1) (returns-clause-call g c)
