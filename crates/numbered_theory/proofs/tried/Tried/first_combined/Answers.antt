use Rattle.std.proofs.Common.{◌∙◌, sym, subst, ℕ, Option, List}
use Rattle.std.proofs.lemmas.Slice.Zip.{AllZip-long}
use Rattle.numbered_theory.specs.Leads.{IsLed, AreLed}
use Rattle.numbered_theory.specs.declared.entries.Entry.{Entry}
use Rattle.numbered_theory.proofs.TriedPairs.{tried_after}
use Rattle.numbered_theory.proofs.tried.Tried.first_combined.Goals as goal

pub first_led-requires-clause-as_many : goal.first_led-requires-clause-as_many
first_led-requires-clause-as_many c =
    let ts = c.terms.result.now in let es = c.deref-2.result.now in
    let led = subst (λ (fs : List Entry). AreLed ts fs c.in_ok-atoms.atoms.items) (c.deref.ensures.value ∙ sym c.deref-2.ensures.value) c.in_ok-atoms.ensures in
    AllZip-long (λ (e : Entry) (o : Option ℕ). IsLed ts e.sum o) es c.deref-3.result.now (subst (λ (os : List (Option ℕ)). AreLed ts es os) (sym c.deref-3.ensures.value) led)

pub returns-clause-tried : goal.returns-clause-tried
returns-clause-tried c =
    tried_after c.first_led.result c.args.store.now c.first_led.new.store c.first_led.ensures.grows c.args.self.now c.first_led.new.pairs c.deref-2.result.now c.deref-2.ensures.value c.requires c.first_led.ensures.within c.first_led.ensures.tried
