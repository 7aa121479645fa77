use Rattle.std.proofs.Common.{rules, arith, length}
use Rattle.std.proofs.lemmas.List.{at_drop_all}
use Rattle.vc_rebuild.specs.Kept.{having_body}
use Rattle.vc_rebuild.proofs.OthersStay.{bodies_on}
use Rattle.vc_rebuild.proofs.put_body.bodies_in.Goals as goal

pub loop-i-preserved : goal.loop-i-preserved
loop-i-preserved c = record {
  sum = bodies_on c.args.procs.now c.loop-i.i c.index-procs-i.result c.loop-i.count c.counted-count.result (length (having_body c.args.procs.now)) (search rules) (search rules) c.loop-i.invariant.sum c.counted-count.ensures.told;
  small = omega (arith, c.counted-count.ensures.most, c.loop-i.invariant.small);
}

pub returns : goal.returns
returns c = omega (arith, at_drop_all (λ ps. length (having_body ps)) c.args.procs.now c.loop-i.i (omega (arith, c.loop-i-test.false)), c.loop-i.invariant.sum)
