use Rattle.std.proofs.Common.{get_or, arith}
use Rattle.numbered_terms.proofs.Rows.{sizes_more}
use Rattle.numbered_terms.proofs.measure.list_sizes.Goals as goal

pub loop-list-preserved : goal.loop-list-preserved
loop-list-preserved c = record {
  sum = sizes_more (λ i. get_or c.args.sizes.now i 0) c.args.lists.now c.loop-list.list-index c.list-item.result c.deref.result.now c.loop-list.total c.saturating_add-total.result c.sizes_of.result _ c.loop-list-test.true c.list-item.is c.deref.ensures.value c.sizes_of.ensures (omega (arith, c.saturating_add-total.ensures)) c.loop-list.invariant.sum;
  fits = omega (arith, c.saturating_add-total.ensures);
}
