use Rattle.std.proofs.Common.{rules, arith}
use Rattle.std.proofs.lemmas.List.{at_drop_all}
use Rattle.vc_rebuild.specs.Change.{checked_requires}
use Rattle.vc_rebuild.proofs.CallsAlike.{checked_on}
use Rattle.vc_rebuild.proofs.change.checked_requires.Goals as goal

pub loop-i-preserved : goal.loop-i-preserved
loop-i-preserved c = record {
  sum = checked_on c.args.specs.now c.loop-i.i c.index-specs-i.result c.loop-i.count c.counted-count.result (checked_requires c.args.specs.now) (search rules) (search rules) c.loop-i.invariant.sum c.counted-count.ensures.told;
  small = omega (arith, c.counted-count.ensures.most, c.loop-i.invariant.small);
}

pub returns : goal.returns
returns c = omega (arith, at_drop_all checked_requires c.args.specs.now c.loop-i.i (omega (arith, c.loop-i-test.false)), c.loop-i.invariant.sum)
