use Rattle.numbered_facts.proofs.Growing.{then}
use Rattle.numbered_branches.proofs.Standing.{mades_next}
use Rattle.numbered_branches.proofs.moves_to_numbers.made_numbers.Goals as goal

pub loop-one-preserved : goal.loop-one-preserved
loop-one-preserved c = record {
  grows = then c.args.store.now c.loop-one.store c.made_number.new.store c.loop-one.invariant.grows c.in_ok-one.ensures.grows;
  done = mades_next c.loop-one.store.terms c.made_number.new.store.terms c.loop-one.all.items c.push.new.self.items c.in_ok-one.one c.args.made.now c.loop-one.one-index c.one-item.result c.in_ok-one.ensures.grows.terms c.loop-one-test.true c.one-item.is c.loop-one.invariant.done c.in_ok-one.ensures.made c.in_ok-push.ensures.items;
}

pub returns-in_err-one-clause-grows : goal.returns-in_err-one-clause-grows
returns-in_err-one-clause-grows c = then c.args.store.now c.loop-one.store c.made_number.new.store c.loop-one.invariant.grows c.made_number.ensures.grows

pub returns-in_err-push-clause-grows : goal.returns-in_err-push-clause-grows
returns-in_err-push-clause-grows c = then c.args.store.now c.loop-one.store c.made_number.new.store c.loop-one.invariant.grows c.in_ok-one.ensures.grows
