use Rattle.std.proofs.Common.{subst, ℕ, Option, List, arith}
use Rattle.std.proofs.lemmas.List.{take_all}
use Rattle.numbered_theory.specs.Leads.{IsLed, AreSidesLed}
use Rattle.numbered_theory.proofs.LeadAtoms.{zip_more}
use Rattle.numbered_theory.proofs.undecided.side_atoms.Goals as goal

pub loop-side-preserved : goal.loop-side-preserved
loop-side-preserved c =
    let here = rw c.side_entry.ensures at c.lead_atom-atom.ensures in
    zip_more (λ (s : ℕ) (o : Option ℕ). IsLed c.args.terms.now s o) c.args.sides.now c.loop-side.side-index c.loop-side.atoms.items _ c.side-item.result c.lead_atom-atom.result c.loop-side-test.true c.side-item.is c.loop-side.invariant here c.in_ok-push.ensures.items

pub returns : goal.returns
returns c = subst (λ (ss : List ℕ). AreSidesLed c.args.terms.now ss c.loop-side.atoms.items) (take_all c.loop-side.side-index c.args.sides.now (omega (arith, c.loop-side-test.false))) c.loop-side.invariant
