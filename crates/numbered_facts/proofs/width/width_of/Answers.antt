use Rattle.std.proofs.Common.{◌≡◌, subst, ◌+◌, max, arith}
use Rattle.numbered_facts.specs.Alike.{AreBelow, node_width}
use Rattle.numbered_facts.proofs.WidthBelow.{width_next}
use Rattle.numbered_facts.proofs.width.width_of.Goals as goal

pub loop-number-preserved : goal.loop-number-preserved
loop-number-preserved c =
    let e : max c.loop-number.width (node_width c.node.result.now) ≡ c.max-width.result = omega (arith, c.max-width.ensures, c.node_width-own.ensures) in
    subst (AreBelow c.args.terms.now (c.loop-number.number + 1)) e (width_next c.args.terms.now c.loop-number.number c.loop-number.width c.node.result.now c.node.ensures.node c.node.ensures.lower c.loop-number.invariant)
