use Rattle.std.proofs.Common.{◌<◌, arith}
use Rattle.numbered_facts.proofs.AtomsIn.{higher_absent}
use Rattle.numbered_facts.proofs.atoms.part_occurs.Goals as goal

pub returns-then-id-part-clause-gives : goal.returns-then-id-part-clause-gives
returns-then-id-part-clause-gives c =
    let low : c.args.id < c.args.part = omega (arith, c.if-id-part.true, c.id.view_is, c.part.view_is) in
    higher_absent c.args.terms.now c.are_stored.ensures c.args.id c.args.part low c.requires.part
