use Rattle.numbered_facts.proofs.Growing.{then}
use Rattle.numbered_branches.proofs.Standing.{steps_next}
use Rattle.numbered_branches.proofs.moves_to_numbers.step_numbers.Goals as goal

pub loop-step-preserved : goal.loop-step-preserved
loop-step-preserved c = record {
  grows = then c.args.store.now c.loop-step.store c.step_number.new.store c.loop-step.invariant.grows c.in_ok-one.ensures.grows;
  done = steps_next c.loop-step.store.terms c.step_number.new.store.terms c.loop-step.all.items c.push.new.self.items c.in_ok-one.one c.args.steps.now c.loop-step.step-index c.step-item.result c.in_ok-one.ensures.grows.terms c.loop-step-test.true c.step-item.is c.loop-step.invariant.done c.in_ok-one.ensures.step c.in_ok-push.ensures.items;
}

pub returns-in_err-one-clause-grows : goal.returns-in_err-one-clause-grows
returns-in_err-one-clause-grows c = then c.args.store.now c.loop-step.store c.step_number.new.store c.loop-step.invariant.grows c.step_number.ensures.grows

pub returns-in_err-push-clause-grows : goal.returns-in_err-push-clause-grows
returns-in_err-push-clause-grows c = then c.args.store.now c.loop-step.store c.step_number.new.store c.loop-step.invariant.grows c.in_ok-one.ensures.grows
