use Rattle.std.proofs.Common.{◌≡◌, true, ◌∙◌, sym, ◌∷◌, [], ◌++◌, arith}
use Rattle.tableau_branch.proofs.Lists.{take_item}
use Rattle.numbered_theory.proofs.tried.begin_with.Goals as goal

pub loop-i-preserved : goal.loop-i-preserved
loop-i-preserved c =
    let es = c.args.entries.now in let fs = c.args.first.now in let i = c.loop-i.i in
    let yes : c.is_same-same.result ≡ true = cc (c.if-not-same.false) in
    take_item es i c.index-entries-i.result (omega (arith, c.loop-i-test.true, c.if-entries-first.false)) c.index-entries-i.is
    ∙ (λ k. c.loop-i.invariant k ++ c.is_same-same.ensures yes k ∷ [])
    ∙ sym (take_item fs i c.index-first-i.result (omega (arith, c.loop-i-test.true)) c.index-first-i.is)
