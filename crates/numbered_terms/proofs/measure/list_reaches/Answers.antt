use Rattle.std.proofs.Common.{get_or}
use Rattle.numbered_terms.proofs.Rows.{reaches_more}
use Rattle.numbered_terms.proofs.measure.list_reaches.Goals as goal

pub loop-list-preserved : goal.loop-list-preserved
loop-list-preserved c = reaches_more (λ i. get_or c.args.reaches.now i 0) c.args.lists.now c.loop-list.list-index c.list-item.result c.deref.result.now c.loop-list.most c.max-most.result c.reaches_of.result _ c.loop-list-test.true c.list-item.is c.deref.ensures.value c.reaches_of.ensures c.max-most.ensures c.loop-list.invariant
