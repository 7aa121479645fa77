use Rattle.std.proofs.Common.{◌<◌, sym, ap, subst, ℕ, length}
use Rattle.numbered_branches.specs.Branches.{NumberedFact, IsFactBelow}
use Rattle.numbered_branches.proofs.Listing.{all_at}
use Rattle.numbered_theory.proofs.SidesListed.{side_put, numbers_more}
use Rattle.numbered_theory.proofs.undecided.at_most_sides.Goals as goal

pub at_most_side-side-requires : goal.at_most_side-side-requires
at_most_side-side-requires c =
    let n = length c.args.terms.now in
    subst (λ (j : ℕ). j < n) (sym (ap (λ (f : NumberedFact). f.term) c.fact.view_is)) (all_at (IsFactBelow n) c.args.facts.now c.loop-fact.fact-index c.fact-item.result c.requires c.loop-fact-test.true c.fact-item.is)

pub loop-fact-preserved : goal.loop-fact-preserved
loop-fact-preserved c =
    let ts = c.args.terms.now in
    record {
      made = side_put ts c.args.facts.now c.loop-fact.fact-index c.fact-item.result c.loop-fact-test.true c.fact-item.is c.fact.inside.term (ap (λ (f : NumberedFact). f.term) c.fact.view_is) c.loop-fact.sides.items c.push_side.new.sides.items c.at_most_side-side.result _ c.at_most_side-side.ensures.is c.in_ok-push_side.ensures c.loop-fact.invariant.made;
      within = numbers_more (length ts) c.loop-fact.sides.items c.push_side.new.sides.items c.at_most_side-side.result c.loop-fact.invariant.within c.at_most_side-side.ensures.within c.in_ok-push_side.ensures;
    }
