use Rattle.std.proofs.Common.{sym, subst, ◌∙◌}
use Rattle.std.specs.Prelude.{Contains}
use Rattle.board_core.specs.Board.{Call, give_back, given_back}
use Rattle.board_core.specs.Handed.{ticket}
use Rattle.board_core.specs.declared.claim.Claim.{Claim}
use Rattle.obligation_board.specs.declared.posted.Posted.{Posted}
use Rattle.obligation_board.specs.Calls.{Holds}
use Rattle.obligation_board.proofs.Ending.{is_out, of_caller, holds_in_turn, claims_after}
use Rattle.obligation_board.proofs.shared.SharedBoard.give_back.Goals as goal

pub give_back-requires : goal.give_back-requires
give_back-requires g c =
    let fit = c.enter-turn.ensures.fitting in
    let t = ticket g.A.Q.Question.key c.args.claim in
    subst (λ (x : Posted g.row.A.Denot g.row.A-Q.Denot). Contains x.board.out t) (c.enter-turn.ensures.turn.1 ∙ sym c.state-posted.ensures.value)
    (is_out _ _ c.enter-turn.new.pass c.enter-turn.result.was.value.board fit.0 t fit.1.0 fit.1.2 (holds_in_turn c.args.pass.now c.enter-turn.new.pass t c.enter-turn.ensures.pass c.requires.held))

pub finish_give_back-place-requires-clause-held : goal.finish_give_back-place-requires-clause-held
finish_give_back-place-requires-clause-held g c =
    subst (λ (v : Claim g.row.A.Denot g.row.A-Q.Denot). Holds c.enter-turn.new.pass (ticket g.A.Q.Question.key v)) (sym c.of-claimed.ensures)
    (holds_in_turn c.args.pass.now c.enter-turn.new.pass (ticket g.A.Q.Question.key c.args.claim) c.enter-turn.ensures.pass c.requires.held)

pub returns-clause-call : goal.returns-clause-call
returns-clause-call g c =
    let k : Call g.row.A.Denot = record { event = give_back (ticket g.A.Q.Question.key c.of-claimed.result.value); reply = given_back } in
    let k' : Call g.row.A.Denot = record { event = give_back (ticket g.A.Q.Question.key c.args.claim); reply = given_back } in
    of_caller _ _ c.args.pass.now c.enter-turn.new.pass c.finish_give_back-place.new.pass k k' c.finish_give_back-place.result c.enter-turn.ensures.pass (λ i. record { event = give_back (ticket g.A.Q.Question.key (c.of-claimed.ensures i)); reply = given_back }) c.finish_give_back-place.ensures.call

pub returns-clause-claims : goal.returns-clause-claims
returns-clause-claims g c = claims_after _ _ c.args.pass.now c.finish_give_back-place.new.pass (give_back (ticket g.A.Q.Question.key c.args.claim)) c.finish_give_back-place.result (given_back) (c.finish_give_back-place.ensures.pass.1 ∙ c.enter-turn.ensures.pass.0.1) (returns-clause-call g c)
