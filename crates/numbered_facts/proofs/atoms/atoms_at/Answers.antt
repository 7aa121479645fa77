use Rattle.std.proofs.Common.{sym}
use Rattle.numbered_facts.proofs.AtomsIn.{atoms_in}
use Rattle.numbered_facts.proofs.atoms.atoms_at.Goals as goal

pub returns-in-Some : goal.returns-in-Some
returns-in-Some c = atoms_in c.args.terms.now c.are_stored.ensures c.args.id c.in-Some.found.now c.deref.result.now c.deref.ensures.value (c.requires c.args.id c.in-Some.found.now (sym c.in-Some.ensures))
