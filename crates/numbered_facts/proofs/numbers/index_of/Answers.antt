use Rattle.std.proofs.Common.{◌∙◌, arith}
use Rattle.std.proofs.lemmas.List.{take_all}
use Rattle.numbered_facts.proofs.Indexes.{listed_next}
use Rattle.numbered_facts.proofs.numbers.index_of.Goals as goal

pub loop-id-preserved : goal.loop-id-preserved
loop-id-preserved c = listed_next c.args.ids.now c.loop-id.id-index c.id-item.result c.loop-id.index.keys c.list_one.new.index.keys c.requires c.loop-id-test.true c.id-item.is c.loop-id.invariant c.in_ok-list_one.ensures.ok

pub returns : goal.returns
returns c = c.loop-id.invariant ∙ take_all c.loop-id.id-index c.args.ids.now (omega (arith, c.loop-id-test.false))
