use Rattle.std.proofs.Common.{◌≡◌, ◌<◌, refl, subst, length, map, arith}
use Rattle.std.proofs.lemmas.Option.{slice_get_read}
use Rattle.numbered_facts.specs.Answers.{StandsFor}
use Rattle.numbered_facts.proofs.Growing.{then}
use Rattle.numbered_branches.specs.Branches.{NumberedFact, fact_at}
use Rattle.numbered_instances.specs.Lefts.{left_among}
use Rattle.numbered_instances.proofs.SharedAtoms.{shared_on}
use Rattle.numbered_instances.proofs.LeftFacts.{facts_low, left_here, left_past, left_below}
use Rattle.numbered_instances.proofs.lefts.listed_left.Goals as goal

pub left_in_another-requires-clause-facts : goal.left_in_another-requires-clause-facts
left_in_another-requires-clause-facts c = facts_low c.args.store.now.terms c.loop-at.store.terms c.loop-at.invariant.grows.terms c.args.facts.now c.requires.facts

pub left_in_another-requires-clause-place : goal.left_in_another-requires-clause-place
left_in_another-requires-clause-place c = omega (arith, c.loop-at-test.true)

pub left_in_another-requires-clause-there : goal.left_in_another-requires-clause-there
left_in_another-requires-clause-there c = (c.loop-at.at, slice_get_read c.args.facts.now (length c.args.facts.now) c.loop-at.at c.index-facts-at.result refl c.loop-at-test.true c.index-facts-at.is)

pub left_in_another-requires-clause-shared : goal.left_in_another-requires-clause-shared
left_in_another-requires-clause-shared c =
    shared_on c.args.store.now.terms c.loop-at.store.terms c.loop-at.invariant.grows.terms (map (λ (f : NumberedFact). f.term) c.args.facts.now) c.args.shared.now.counts.items c.requires.shared

pub returns-in-Some-clause-left : goal.returns-in-Some-clause-left
returns-in-Some-clause-left c =
    let m = c.loop-at.store in let o = c.left_in_another.new.store in let fs = c.args.facts.now in let f = c.index-facts-at.result in
    left_here c.args.store.now m o c.loop-at.invariant.grows c.in_ok-term.ensures.grows fs c.requires.facts c.loop-at.at f c.loop-at-test.true c.index-facts-at.is c.in-Some.term _
    (subst (λ x. StandsFor o.terms x (left_among m fs (fact_at m.terms f))) c.in-Some.is c.in_ok-term.ensures.gives) c.loop-at.invariant.rest

pub returns-in-Some-clause-over : goal.returns-in-Some-clause-over
returns-in-Some-clause-over c =
    let m = c.loop-at.store in let o = c.left_in_another.new.store in let fs = c.args.facts.now in let f = c.index-facts-at.result in
    left_below c.args.store.now m o c.loop-at.invariant.grows c.in_ok-term.ensures.grows fs c.requires.facts c.loop-at.at f c.loop-at-test.true c.index-facts-at.is c.in-Some.term
    (subst (λ x. StandsFor o.terms x (left_among m fs (fact_at m.terms f))) c.in-Some.is c.in_ok-term.ensures.gives)

pub loop-at-preserved : goal.loop-at-preserved
loop-at-preserved c =
    let n = c.args.store.now in let m = c.loop-at.store in let o = c.left_in_another.new.store in let fs = c.args.facts.now in let f = c.index-facts-at.result in
    record {
      grows = then n m o c.loop-at.invariant.grows c.in_ok-term.ensures.grows;
      rest = left_past n m o c.loop-at.invariant.grows c.in_ok-term.ensures.grows fs c.requires.facts c.loop-at.at f c.loop-at-test.true c.index-facts-at.is _
          (subst (λ x. StandsFor o.terms x (left_among m fs (fact_at m.terms f))) c.in_default.is c.in_ok-term.ensures.gives) c.loop-at.invariant.rest;
    }
