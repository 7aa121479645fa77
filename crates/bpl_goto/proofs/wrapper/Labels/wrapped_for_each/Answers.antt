use Rattle.std.proofs.Common.{◌∙◌, ◌+◌, [], ◌∷◌, drop, sym, ap}
use Rattle.bpl_model.specs.StmtView.{stmts_of}
use Rattle.bpl_goto.specs.Removed.{wrapped_for}
use Rattle.bpl_goto.proofs.Loops.{next_is, wrapped_both}
use Rattle.bpl_goto.proofs.wrapper.Labels.wrapped_for_each.Goals as goal

pub loop-label-preserved : goal.loop-label-preserved
loop-label-preserved c =
    let N = c.args.self.now.named in
    let L = c.args.self.now.longest in
    let l = c.label-item.result in
    let rest = drop (c.loop-label.label-index + 1) c.args.labels.now in
    let ahead = next_is c.args.labels.now c.loop-label.label-index l c.loop-label-test.true c.label-item.is in
    ap (λ b. wrapped_for N L b rest) c.in_ok-inner.ensures
    ∙ (sym (wrapped_both N L (stmts_of c.loop-label.inner.items) (l ∷ []) rest)
    ∙ ((λ i. wrapped_for N L (stmts_of c.loop-label.inner.items) (sym ahead i)) ∙ c.loop-label.invariant))
