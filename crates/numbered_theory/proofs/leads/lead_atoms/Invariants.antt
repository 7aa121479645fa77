use Rattle.std.proofs.Common.{take}
use Rattle.numbered_theory.specs.Leads.{AreLed}
use Rattle.numbered_theory.proofs.leads.lead_atoms.Given as goal

abbrev pub invariant-loop-entry : goal.invariant-loop-entry
invariant-loop-entry l = AreLed l.terms (take l.entry-index l.entries) l.atoms.items
