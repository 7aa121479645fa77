use Rattle.obligation_board.proofs.Knowing.{closed_after}
use Rattle.std.proofs.Common.{◌≡◌, ◌+◌, [], ◌∷◌, ◌++◌, length, inl, refl, ap, ◌∙◌, length-append, arith}
use Rattle.turn_lock.specs.Lock.{number, mine}
use Rattle.board_core.specs.Board.{Call, claim, claimed, was_closed, was_empty, no_memory, memory}
use Rattle.board_core.specs.Handed.{ticket, claim_answer}
use Rattle.board_core.specs.declared.claim.Claimed.{Claimed}
use Rattle.obligation_board.specs.Rounds.{made_by, no_question}
use Rattle.obligation_board.proofs.Working.{made_more, after_claim, room_before, ends_open, begins_on, sees_more}
use Rattle.obligation_board.proofs.round.work_once.Goals as goal

pub returns-in-Err-clause-calls : goal.returns-in-Err-clause-calls
returns-in-Err-clause-calls g c = (record { event = no_memory; reply = memory } ∷ [], c.in-Err.ensures.memory.1.mine, inl refl)

pub returns-in-Empty-clause-calls : goal.returns-in-Empty-clause-calls
returns-in-Empty-clause-calls g c =
    let p = c.args.pass.now in (
      record { event = claim; reply = was_empty } ∷ [],
      c.in-Ok.ensures.call.mine ∙ ap (λ (x : Claimed g.row.P-A.Denot g.row.P-A-Q.Denot). let k : Call g.row.P-A.Denot = record { event = claim; reply = claim_answer g.P.A.Q.Question.key x } in mine p ++ (number p, k) ∷ []) c.in-Empty.is,
      (no_question, tt, refl, refl),
    )

pub returns-in-Claim-clause-calls : goal.returns-in-Claim-clause-calls
returns-in-Claim-clause-calls g c =
    let p = c.args.pass.now in
    let q = c.claim.new.pass in
    let t = ticket g.P.A.Q.Question.key c.in-Claim.claim in
    let first : Call g.row.P-A.Denot = record { event = claim; reply = claimed t } in
    let s = c.settle.ensures.calls in
    let given : mine q ≡ mine p ++ made_by (number p) (first ∷ []) =
    c.in-Ok.ensures.call.mine ∙ ap (λ (x : Claimed g.row.P-A.Denot g.row.P-A-Q.Denot). let k : Call g.row.P-A.Denot = record { event = claim; reply = claim_answer g.P.A.Q.Question.key x } in mine p ++ (number p, k) ∷ []) c.in-Claim.is in (
      first ∷ s.0,
      made_more (number p) (mine p) (mine q) (mine c.settle.new.pass) (first ∷ []) s.0 given (s.1 ∙ ap (λ n. mine q ++ made_by n s.0) c.claim.ensures.pass.1),
      after_claim g.P.A.Q.Question.key (g.P.Prover.gives c.args.prover.now) t c.settle.result s.0 s.2,
    )

pub returns-in-Claim-clause-room : goal.returns-in-Claim-clause-room
returns-in-Claim-clause-room g c =
    let p = c.args.pass.now in
    let q = c.claim.new.pass in
    let k : Call g.row.P-A.Denot = record { event = claim; reply = claim_answer g.P.A.Q.Question.key c.in-Ok.receipt.reply } in
    let longer : length (mine q) ≡ length (mine p ++ (number p, k) ∷ []) = ap length c.in-Ok.ensures.call.mine in
    let one = length-append (mine p) ((number p, k) ∷ []) in
    let s = c.settle.ensures.calls in
    let more : length (mine q) ≡ length (mine p) + 1 = omega (arith, longer, one) in
    room_before g.P.A.Q.Question.key (g.P.Prover.gives c.args.prover.now) (ticket g.P.A.Q.Question.key c.in-Claim.claim) c.settle.result s.0 (length (mine p)) (length (mine q)) 18446744073709551616 s.2 more c.settle.ensures.room

pub returns-in-Err-clause-seen : goal.returns-in-Err-clause-seen
returns-in-Err-clause-seen g c = sees_more _ _ c.args.pass.now c.claim.new.pass _ c.in-Err.ensures.memory.0 _ c.in-Err.ensures.memory.1

pub returns-in-Empty-clause-seen : goal.returns-in-Empty-clause-seen
returns-in-Empty-clause-seen g c = sees_more _ _ c.args.pass.now c.claim.new.pass _ c.in-Ok.receipt.place _ c.in-Ok.ensures.call

pub returns-in-Closed-clause-seen : goal.returns-in-Closed-clause-seen
returns-in-Closed-clause-seen g c = sees_more _ _ c.args.pass.now c.claim.new.pass _ c.in-Ok.receipt.place _ c.in-Ok.ensures.call

pub returns-in-Claim-clause-seen : goal.returns-in-Claim-clause-seen
returns-in-Claim-clause-seen g c = begins_on _ _ _ (sees_more _ _ c.args.pass.now c.claim.new.pass _ c.in-Ok.receipt.place _ c.in-Ok.ensures.call) c.settle.ensures.seen

pub returns-in-Closed-clause-closed : goal.returns-in-Closed-clause-closed
returns-in-Closed-clause-closed g c = λ _. closed_after _ _ c.args.pass.now c.claim.new.pass c.in-Ok.receipt.place _ c.in-Ok.ensures.call (ap (claim_answer g.P.A.Q.Question.key) c.in-Closed.is)

pub returns-in-Claim-clause-closed : goal.returns-in-Claim-clause-closed
returns-in-Claim-clause-closed g c = ends_open g.P.A.Q.Question.key (g.P.Prover.gives c.args.prover.now) _ (ticket g.P.A.Q.Question.key c.in-Claim.claim) c.settle.result c.settle.ensures.calls.0 c.settle.ensures.calls.2

pub returns-in-Closed-clause-calls : goal.returns-in-Closed-clause-calls
returns-in-Closed-clause-calls g c =
    let p = c.args.pass.now in (
      record { event = claim; reply = was_closed } ∷ [],
      c.in-Ok.ensures.call.mine ∙ ap (λ (x : Claimed g.row.P-A.Denot g.row.P-A-Q.Denot). let k : Call g.row.P-A.Denot = record { event = claim; reply = claim_answer g.P.A.Q.Question.key x } in mine p ++ (number p, k) ∷ []) c.in-Closed.is,
      refl,
    )

pub returns-in-Claim-clause-pass : goal.returns-in-Claim-clause-pass
returns-in-Claim-clause-pass g c = (c.settle.ensures.pass.0, c.settle.ensures.pass.1 ∙ c.claim.ensures.pass.1)

pub returns-in-Claim-clause-above : goal.returns-in-Claim-clause-above
returns-in-Claim-clause-above g c = c.settle.ensures.above ∙ c.claim.ensures.above

pub returns-in-Claim-clause-splits : goal.returns-in-Claim-clause-splits
returns-in-Claim-clause-splits g c = c.settle.ensures.splits ∙ c.claim.ensures.splits
