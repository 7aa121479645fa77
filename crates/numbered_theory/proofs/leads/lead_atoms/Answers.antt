use Rattle.std.proofs.Common.{subst, ℕ, Option, List, arith}
use Rattle.std.proofs.lemmas.List.{take_all}
use Rattle.numbered_theory.specs.Leads.{IsLed, AreLed}
use Rattle.numbered_theory.specs.declared.entries.Entry.{Entry}
use Rattle.numbered_theory.proofs.LeadAtoms.{zip_more}
use Rattle.numbered_theory.proofs.leads.lead_atoms.Goals as goal

pub loop-entry-preserved : goal.loop-entry-preserved
loop-entry-preserved c =
    zip_more (λ (e : Entry) (o : Option ℕ). IsLed c.args.terms.now e.sum o) c.args.entries.now c.loop-entry.entry-index c.loop-entry.atoms.items _ c.entry-item.result c.lead_atom-atom.result c.loop-entry-test.true c.entry-item.is c.loop-entry.invariant c.lead_atom-atom.ensures c.in_ok-push.ensures.items

pub returns : goal.returns
returns c = subst (λ (es : List Entry). AreLed c.args.terms.now es c.loop-entry.atoms.items) (take_all c.loop-entry.entry-index c.args.entries.now (omega (arith, c.loop-entry-test.false))) c.loop-entry.invariant
