use Rattle.std.proofs.Common.{ap}
use Rattle.term_bank.specs.Numbered.{at}
use Rattle.numbered_branches.specs.Branches.{NumberedFact}
use Rattle.numbered_theory.proofs.AccessFound.{access_passed, access_taken}
use Rattle.numbered_facts.proofs.Growing.{then}
use Rattle.numbered_theory.proofs.past.oldest_access.Goals as goal

pub returns-in-Some-clause-finds : goal.returns-in-Some-clause-finds
returns-in-Some-clause-finds c =
    let is = ap (λ (f : NumberedFact). f.term) c.fact.view_is in
    let here = rw c.in-Some.is at c.in_ok-access.ensures.gives in
    (here.0, access_taken c.args.store.now c.loop-fact.store c.loop-fact.invariant.grows c.args.facts.now c.loop-fact.fact-index c.fact-item.result c.requires c.loop-fact-test.true c.fact-item.is c.fact.inside.term is (at c.access.new.self.terms c.in-Some.access) here.1 c.loop-fact.invariant.first)

pub loop-fact-preserved : goal.loop-fact-preserved
loop-fact-preserved c =
    let n = c.args.store.now in
    let is = ap (λ (f : NumberedFact). f.term) c.fact.view_is in
    let here = rw c.in_default.is at c.in_ok-access.ensures.gives in
    record {
      grows = then n c.loop-fact.store c.access.new.self c.loop-fact.invariant.grows c.in_ok-access.ensures.grows;
      first = access_passed n c.loop-fact.store c.loop-fact.invariant.grows c.args.facts.now c.loop-fact.fact-index c.fact-item.result c.requires c.loop-fact-test.true c.fact-item.is c.fact.inside.term is here c.loop-fact.invariant.first;
    }

pub returns-in_err-access-clause-grows : goal.returns-in_err-access-clause-grows
returns-in_err-access-clause-grows c = then c.args.store.now c.loop-fact.store c.access.new.self c.loop-fact.invariant.grows c.access.ensures.grows

pub returns-in-Some-clause-grows : goal.returns-in-Some-clause-grows
returns-in-Some-clause-grows c = then c.args.store.now c.loop-fact.store c.access.new.self c.loop-fact.invariant.grows c.in_ok-access.ensures.grows

pub returns-clause-grows : goal.returns-clause-grows
returns-clause-grows c = c.loop-fact.invariant.grows
