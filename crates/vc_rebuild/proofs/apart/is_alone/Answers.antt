use Rattle.std.proofs.Common.{rules, arith}
use Rattle.vc_rebuild.proofs.OwnAlone.{alone_first, alone_more, alone_all}
use Rattle.vc_rebuild.proofs.apart.is_alone.Goals as goal

pub loop-i-init : goal.loop-i-init
loop-i-init c = alone_first c.args.links.now c.args.body c.args.procs.now

pub loop-i-preserved : goal.loop-i-preserved
loop-i-preserved c =
    alone_more c.args.links.now c.args.body c.args.procs.now c.loop-i.i c.index-procs-i.result (search rules) (search rules) (c.in_ok-is_others.ensures c.if-branch.false) c.loop-i.invariant

pub returns : goal.returns
returns c = λ so. alone_all c.args.links.now c.args.body c.args.procs.now c.loop-i.i (omega (arith, c.loop-i-test.false)) c.loop-i.invariant
