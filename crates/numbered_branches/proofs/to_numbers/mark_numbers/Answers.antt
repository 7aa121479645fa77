use Rattle.numbered_facts.proofs.Growing.{then}
use Rattle.numbered_branches.proofs.Standing.{marks_next}
use Rattle.numbered_branches.proofs.to_numbers.mark_numbers.Goals as goal

pub loop-mark-preserved : goal.loop-mark-preserved
loop-mark-preserved c = record {
  grows = then c.args.store.now c.loop-mark.store c.mark_number.new.store c.loop-mark.invariant.grows c.in_ok-one.ensures.grows;
  done = marks_next c.loop-mark.store.terms c.mark_number.new.store.terms c.loop-mark.all.items c.push.new.self.items c.in_ok-one.one c.args.marks.now c.loop-mark.mark-index c.mark-item.result c.in_ok-one.ensures.grows.terms c.loop-mark-test.true c.mark-item.is c.loop-mark.invariant.done c.in_ok-one.ensures.mark c.in_ok-push.ensures.items;
}

pub returns-in_err-one-clause-grows : goal.returns-in_err-one-clause-grows
returns-in_err-one-clause-grows c = then c.args.store.now c.loop-mark.store c.mark_number.new.store c.loop-mark.invariant.grows c.mark_number.ensures.grows

pub returns-in_err-push-clause-grows : goal.returns-in_err-push-clause-grows
returns-in_err-push-clause-grows c = then c.args.store.now c.loop-mark.store c.mark_number.new.store c.loop-mark.invariant.grows c.in_ok-one.ensures.grows
