use Rattle.std.proofs.Common.{sym, ◌∙◌}
use Rattle.obligation_board.proofs.Ending.{stands_after, is_call}
use Rattle.obligation_board.proofs.Knowing.{knows_after}
use Rattle.obligation_board.proofs.shared.SharedBoard.finish.Goals as goal

pub leave_as-requires-clause-entry : goal.leave_as-requires-clause-entry
leave_as-requires-clause-entry g c = let q = c.requires.call in
    (record { event = q.0; reply = q.1 }, q.2, λ log fit. stands_after _ _ c.args.pass.now c.args.turn.was.value.board c.args.turn.state.board log q.0 q.1 fit.0 fit.2 q.3 q.4)

pub returns-clause-call : goal.returns-clause-call
returns-clause-call g c = λ e r w. let q = c.requires.call in
    let t = c.leave_as.ensures.entry (record { event = e; reply = r }) w in
    is_call _ _ c.args.pass.now c.leave_as.new.pass c.args.turn.was.value.board c.args.turn.state.board t.0 (record { event = q.0; reply = q.1 }) (record { event = e; reply = r }) c.leave_as.result (sym q.2 ∙ w) t.1.0 t.1.1 t.1.2 q.3 q.4 t.2 t.3 t.4

pub returns-clause-knows : goal.returns-clause-knows
returns-clause-knows g c = let q = c.requires.call in
    knows_after _ _ c.args.pass.now c.leave_as.new.pass q.0 c.leave_as.result q.1 (returns-clause-call g c q.0 q.1 q.2) c.leave_as.ensures.pass.0.1
