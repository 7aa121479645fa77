use Rattle.numbered_terms.proofs.Rows.{numbers_more, numbers_all}
use Rattle.numbered_terms.proofs.renumber.list_numbers.Goals as goal

pub loop-list-preserved : goal.loop-list-preserved
loop-list-preserved c = numbers_more c.loop-list.numbers.items c.push_all.new.numbers.items c.deref.result.now _ c.args.lists.now c.loop-list.list-index c.list-item.result c.loop-list-test.true c.list-item.is c.deref.ensures.value c.in_ok-push_all.ensures c.loop-list.invariant

pub returns : goal.returns
returns c = numbers_all c.loop-list.numbers.items _ c.args.lists.now c.loop-list.list-index c.loop-list-test.false c.loop-list.invariant
