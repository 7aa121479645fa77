use Rattle.std.proofs.Common.{sym}
use Rattle.numbered_theory.proofs.leads.lead_atom.Goals as goal

pub returns : goal.returns
returns c = record { first = c.lead-found.result; is = c.lead-found.ensures.is; within = c.lead-found.ensures.within; atom_is = sym c.atom_of.ensures }
