use Rattle.std.proofs.Common.{◌<◌, ◌∙◌, sym, ap, subst, ℕ, Option, List, length}
use Rattle.std.proofs.lemmas.Slice.Zip.{AllZip-long}
use Rattle.std.specs.List.{AllByRecursion}
use Rattle.numbered_branches.specs.Branches.{NumberedFact, IsFactBelow}
use Rattle.numbered_branches.proofs.Listing.{all_at}
use Rattle.numbered_theory.specs.Leads.{side_entry, IsNoted, IsLed, AreSidesLed}
use Rattle.numbered_theory.proofs.PlacesListed.{undecided_put, places_more}
use Rattle.numbered_theory.proofs.undecided.undecided_places.Goals as goal

pub undecided-requires-clause-sides : goal.undecided-requires-clause-sides
undecided-requires-clause-sides c = subst (AllByRecursion (λ (j : ℕ). j < length c.args.terms.now)) (sym c.deref-in-loop-at.ensures.value) c.in_ok-sides.ensures.within

pub undecided-requires-clause-noted : goal.undecided-requires-clause-noted
undecided-requires-clause-noted c =
    subst (AllByRecursion (λ (s : ℕ). IsNoted c.args.terms.now c.note_sides.new.leads.above c.note_sides.new.leads.below (side_entry s))) (c.deref.ensures.value ∙ sym c.deref-in-loop-at.ensures.value) c.in_ok-note_sides.ensures

pub undecided-requires-clause-as_many : goal.undecided-requires-clause-as_many
undecided-requires-clause-as_many c =
    let ts = c.args.terms.now in let ss = c.deref-in-loop-at.result.now in
    let led = subst (λ (is : List ℕ). AreSidesLed ts is c.in_ok-atoms.atoms.items) (c.deref-2.ensures.value ∙ sym c.deref-in-loop-at.ensures.value) c.in_ok-atoms.ensures in
    AllZip-long (λ (s : ℕ) (o : Option ℕ). IsLed ts s o) ss c.deref-in-loop-at-2.result.now (subst (λ (os : List (Option ℕ)). AreSidesLed ts ss os) (sym c.deref-in-loop-at-2.ensures.value) led)

pub undecided-requires-clause-led : goal.undecided-requires-clause-led
undecided-requires-clause-led c =
    let ts = c.args.terms.now in let ss = c.deref-in-loop-at.result.now in
    let led = subst (λ (is : List ℕ). AreSidesLed ts is c.in_ok-atoms.atoms.items) (c.deref-2.ensures.value ∙ sym c.deref-in-loop-at.ensures.value) c.in_ok-atoms.ensures in
    subst (λ (os : List (Option ℕ)). AreSidesLed ts ss os) (sym c.deref-in-loop-at-2.ensures.value) led

pub undecided-requires-clause-fact : goal.undecided-requires-clause-fact
undecided-requires-clause-fact c =
    let n = length c.args.terms.now in
    subst (λ (j : ℕ). j < n) (sym (ap (λ (f : NumberedFact). f.term) c.fact.view_is)) (all_at (IsFactBelow n) c.args.facts.now c.loop-at.at c.index-facts-at.result c.requires c.loop-at-test.true c.index-facts-at.is)

pub loop-at-preserved : goal.loop-at-preserved
loop-at-preserved c =
    let ts = c.args.terms.now in let fs = c.args.facts.now in
    record {
      made = undecided_put ts fs c.loop-at.at c.index-facts-at.result c.loop-at-test.true c.index-facts-at.is c.in_ok-sides.sides.items c.deref-in-loop-at.result.now c.deref-in-loop-at.ensures.value c.in_ok-sides.ensures.are c.fact.inside.term (ap (λ (f : NumberedFact). f.term) c.fact.view_is)
          c.loop-at.places.items c.push_place.new.places.items c.in_ok-what.what _ c.in_ok-what.ensures.is c.in_ok-push_place.ensures c.loop-at.invariant.made;
      within = places_more (length ts) fs c.loop-at.at c.index-facts-at.result c.requires c.loop-at-test.true c.index-facts-at.is c.loop-at.places.items c.push_place.new.places.items c.in_ok-what.what c.loop-at.invariant.within c.in_ok-what.ensures.within c.in_ok-push_place.ensures;
    }
