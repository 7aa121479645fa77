use Rattle.std.proofs.Common.{◌-◌, length, arith}
use Rattle.numbered_terms.proofs.Items.{atom_below}
use Rattle.numbered_facts.proofs.left.solvable.Goals as goal

pub better-requires-clause-part : goal.better-requires-clause-part
better-requires-clause-part c = atom_below (length c.args.terms.now) c.args.parts.now (c.loop-i.i - 1) c.index-parts-i.result c.requires (omega (arith, c.loop-i-test.true, c.loop-i.invariant.within)) c.index-parts-i.is
