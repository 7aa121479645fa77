use Rattle.std.proofs.Common.{◌≡◌, ◌+◌, length, ap, ◌∙◌, arith}
use Rattle.std.specs.Prelude.{slice_get}
use Rattle.std.proofs.lemmas.Result.{IfOk-weaker}
use Rattle.bpl_model.specs.StmtView.{stmts_of}
use Rattle.bpl_model.specs.Cut.{contract_of, cut_call}
use Rattle.call_cut.proofs.body.cut_call.Goals as goal

pub returns-in-Some-clause-stmts : goal.returns-in-Some-clause-stmts
returns-in-Some-clause-stmts c =
    let m = c.args.parts.now in
    let own = c.args.variables.now.own.items in
    let n : c.in_ok-n.n ≡ c.args.first + length own = let a = c.in_ok-n.ensures in let b = c.len.ensures in omega (arith, a, b) in
    IfOk-weaker c.replaced.result
    (λ v. v.items ≡ contract_of m c.in_ok-n.n c.args.at c.in-Some.callee.now c.args.arguments.now c.args.vars.now)
    (λ v. stmts_of v.items ≡ (cut_call m (c.args.first + length own) c.args.at (slice_get m.procs c.args.callee) c.args.arguments.now c.args.vars.now).0)
    (λ v e. ap stmts_of e ∙ (λ i. (cut_call m (n i) c.args.at (c.in-Some.ensures i) c.args.arguments.now c.args.vars.now).0))
    c.replaced.ensures.stmts
