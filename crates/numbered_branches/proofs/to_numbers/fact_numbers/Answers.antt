use Rattle.numbered_facts.proofs.Growing.{then}
use Rattle.numbered_branches.proofs.Standing.{facts_next}
use Rattle.numbered_branches.proofs.to_numbers.fact_numbers.Goals as goal

pub loop-fact-preserved : goal.loop-fact-preserved
loop-fact-preserved c = record {
  grows = then c.args.store.now c.loop-fact.store c.fact_number.new.store c.loop-fact.invariant.grows c.in_ok-one.ensures.grows;
  done = facts_next c.loop-fact.store.terms c.fact_number.new.store.terms c.loop-fact.all.items c.push.new.self.items c.in_ok-one.one c.args.facts.now c.loop-fact.fact-index c.fact-item.result c.in_ok-one.ensures.grows.terms c.loop-fact-test.true c.fact-item.is c.loop-fact.invariant.done c.in_ok-one.ensures.fact c.in_ok-push.ensures.items;
}

pub returns-in_err-one-clause-grows : goal.returns-in_err-one-clause-grows
returns-in_err-one-clause-grows c = then c.args.store.now c.loop-fact.store c.fact_number.new.store c.loop-fact.invariant.grows c.fact_number.ensures.grows

pub returns-in_err-push-clause-grows : goal.returns-in_err-push-clause-grows
returns-in_err-push-clause-grows c = then c.args.store.now c.loop-fact.store c.fact_number.new.store c.loop-fact.invariant.grows c.in_ok-one.ensures.grows
