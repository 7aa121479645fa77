use Rattle.std.proofs.Common.{length, arith}
use Rattle.term_bank.specs.Numbered.{at}
use Rattle.numbered_terms.proofs.Items.{atom_below}
use Rattle.numbered_facts.proofs.LeftSides.{parts_done}
use Rattle.numbered_facts.proofs.left.parts_with.Goals as goal

pub occurs-requires-clause-id : goal.occurs-requires-clause-id
occurs-requires-clause-id c = atom_below (length c.args.terms.now) c.args.parts.now c.loop-part.part-index c.part-item.result c.requires.parts c.loop-part-test.true c.part-item.is

pub returns : goal.returns
returns c = let done = parts_done c.args.terms.now (at c.args.terms.now c.args.id) c.args.parts.now c.loop-part.part-index (omega (arith, c.loop-part-test.false)) in omega (arith, done, c.loop-part.invariant.count)
