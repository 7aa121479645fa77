use Rattle.std.proofs.Common.{[], ◌∷◌, ◌++◌, sym, ◌∙◌}
use Rattle.call_cut.proofs.Ranges.{range_more}
use Rattle.call_cut.proofs.number.range.Goals as goal

pub loop-i-preserved : goal.loop-i-preserved
loop-i-preserved c = c.in_ok-push.ensures.items ∙ ((λ i. c.loop-i.invariant i ++ c.in_ok-sum.ensures i ∷ []) ∙ sym (range_more c.args.first c.loop-i.i))
