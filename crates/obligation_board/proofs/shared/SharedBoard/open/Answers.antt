use Rattle.std.proofs.Common.{◌<◌, refl, sym, ap, subst, ◌∙◌, map}
use Rattle.std.specs.Arc.{arc_value}
use Rattle.board_core.specs.Board.{State, Reply, Call, open_keys, no_memory, memory}
use Rattle.board_core.specs.Step.{reply}
use Rattle.board_core.specs.Handed.{open_answer}
use Rattle.obligation_board.specs.declared.posted.Posted.{Posted}
use Rattle.obligation_board.proofs.Ending.{room, of_caller, claims_after}
use Rattle.obligation_board.proofs.shared.SharedBoard.open.Goals as goal

pub open-requires : goal.open-requires
open-requires g c = let fit = c.enter-turn.ensures.fitting in
    subst (λ (x : Posted g.row.A.Denot g.row.A-Q.Denot). x.board.version < 18446744073709551615) (c.enter-turn.ensures.turn.1 ∙ sym c.state-posted.ensures.value)
    (room _ _ c.enter-turn.result.was.value.board fit.0 18446744073709551615 fit.1.0 fit.2).0

pub returns-in-Ok-clause-call : goal.returns-in-Ok-clause-call
returns-in-Ok-clause-call g c =
    let k : Call g.row.A.Denot = record { event = open_keys c.open.new.self.present; reply = reply c.enter-turn.result.was.value.board (open_keys c.open.new.self.present) } in
    let k' : Call g.row.A.Denot = record { event = open_keys (map (λ q. g.A.Q.Question.key (arc_value q)) c.args.items.items); reply = open_answer c.in-Ok.reply } in
    of_caller _ _ c.args.opener.now c.enter-turn.new.pass c.finish-place.new.pass k k' c.finish-place.result c.enter-turn.ensures.pass
    (ap (λ ks. record { event = open_keys ks; reply = reply c.enter-turn.result.was.value.board (open_keys ks) }) (ap (λ (s : State g.row.A.Denot). s.present) c.in-Ok.ensures.step.0)
    ∙ ap (λ (r : Reply g.row.A.Denot). record { event = open_keys (map (λ q. g.A.Q.Question.key (arc_value q)) c.args.items.items); reply = r }) (ap (λ (x : Posted g.row.A.Denot g.row.A-Q.Denot). reply x.board (open_keys (map (λ q. g.A.Q.Question.key (arc_value q)) c.args.items.items))) (c.enter-turn.ensures.turn.1 ∙ sym c.state-posted.ensures.value) ∙ sym c.in-Ok.ensures.step.1))
    (c.finish-place.ensures.call k.event k.reply refl)

pub returns-in-Ok-clause-claims : goal.returns-in-Ok-clause-claims
returns-in-Ok-clause-claims g c = claims_after _ _ c.args.opener.now c.finish-place.new.pass (open_keys (map (λ q. g.A.Q.Question.key (arc_value q)) c.args.items.items)) c.finish-place.result (open_answer c.in-Ok.reply) (c.finish-place.ensures.pass.1 ∙ c.enter-turn.ensures.pass.0.1) (returns-in-Ok-clause-call g c)

pub returns-in-Err-clause-memory : goal.returns-in-Err-clause-memory
returns-in-Err-clause-memory g c = let t = c.finish_without_memory.ensures.call in
    (t.0, of_caller _ _ c.args.opener.now c.enter-turn.new.pass c.finish_without_memory.new.pass (record { event = no_memory; reply = memory }) (record { event = no_memory; reply = memory }) t.0 c.enter-turn.ensures.pass refl t.1)
