use Rattle.std.proofs.Common.{◌++◌, ◌<◌, List, ℕ, sym, subst, map, take, drop, length, arith}
use Rattle.std.proofs.lemmas.List.{take_all}
use Rattle.numbered_facts.proofs.Growing.{then}
use Rattle.numbered_branches.specs.Branches.{NumberedFact, IsFactBelow}
use Rattle.numbered_branches.proofs.Listing.{all_at}
use Rattle.numbered_instances.specs.Shared.{AreShared}
use Rattle.numbered_instances.proofs.LeftFacts.{facts_low}
use Rattle.numbered_instances.proofs.SharedAtoms.{numbers_on}
use Rattle.numbered_instances.proofs.ListedFacts.{terms_next}
use Rattle.numbered_instances.proofs.shared.count_new.Goals as goal

pub count_next-requires-clause-listed : goal.count_next-requires-clause-listed
count_next-requires-clause-listed c = numbers_on c.args.store.now.terms c.loop-fact.store.terms c.loop-fact.invariant.grows.terms c.args.listed.now c.requires.listed

pub count_next-requires-clause-id : goal.count_next-requires-clause-id
count_next-requires-clause-id c = let ts = c.args.store.now.terms in let us = c.loop-fact.store.terms in
    subst (λ i. i < length us) (sym c.term_of-id.ensures)
    (all_at (IsFactBelow (length us)) c.args.facts.now c.loop-fact.fact-index c.fact-item.result (facts_low ts us c.loop-fact.invariant.grows.terms c.args.facts.now c.requires.facts) c.loop-fact-test.true c.fact-item.is)

pub loop-fact-preserved : goal.loop-fact-preserved
loop-fact-preserved c =
    let fs = c.args.facts.now in let i = c.loop-fact.fact-index in let vs = c.count_next.new.store.terms in let new = c.count_next.new.counts.items in let ys = drop c.in_ok-next.next c.args.listed.now in
    record {
      grows = then c.args.store.now c.loop-fact.store c.count_next.new.store c.loop-fact.invariant.grows c.in_ok-next.ensures.grows;
      counted = λ h. subst (λ (zs : List ℕ). AreShared vs zs new) (terms_next fs i c.fact-item.result c.term_of-id.result ys c.loop-fact-test.true c.fact-item.is c.term_of-id.ensures)
          (c.in_ok-next.ensures.counted (map (λ (f : NumberedFact). f.term) (take i fs)) (c.loop-fact.invariant.counted h));
    }

pub returns-clause-counted : goal.returns-clause-counted
returns-clause-counted c = λ h. subst (λ (zs : List NumberedFact). AreShared c.loop-fact.store.terms (map (λ (f : NumberedFact). f.term) zs ++ drop c.loop-fact.at c.args.listed.now) c.loop-fact.counts.items)
    (take_all c.loop-fact.fact-index c.args.facts.now (omega (arith, c.loop-fact-test.false))) (c.loop-fact.invariant.counted h)

pub returns-in_err-next-clause-grows : goal.returns-in_err-next-clause-grows
returns-in_err-next-clause-grows c = then c.args.store.now c.loop-fact.store c.count_next.new.store c.loop-fact.invariant.grows c.count_next.ensures.grows
