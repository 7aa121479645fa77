use Rattle.std.proofs.Common.{◌∙◌, sym, arith}
use Rattle.bpl_dependencies.specs.Reach.{edges_seen}
use Rattle.bpl_dependencies.specs.Ranks.{falls}
use Rattle.bpl_dependencies.proofs.NeverFalling.{one_more, all_gone}
use Rattle.bpl_dependencies.proofs.ranks.never_fall.Goals as goal

pub loop-i-init : goal.loop-i-init
loop-i-init c i l = absurd (omega (l, arith))

pub loop-i-preserved : goal.loop-i-preserved
loop-i-preserved c =
    let R = c.args.ranks.now in
    one_more R (edges_seen c.args.edges.now) c.loop-i.i c.loop-i.invariant (sym (c.falls.ensures ∙ (λ j. falls R (c.rank_of.ensures j) (c.row.ensures j))) ∙ c.if-falls.false)

pub returns : goal.returns
returns c h = all_gone c.args.ranks.now c.args.edges.now c.loop-i.i (omega (arith, c.loop-i-test.false)) c.loop-i.invariant
