use Rattle.std.proofs.Common.{arith}
use Rattle.numbered_instances.proofs.shared.place_ahead.Goals as goal

pub loop-place-init : goal.loop-place-init
loop-place-init c = omega arith

pub loop-place-preserved : goal.loop-place-preserved
loop-place-preserved c = omega (arith, c.loop-place.invariant)

pub returns-in-Some-clause-order : goal.returns-in-Some-clause-order
returns-in-Some-clause-order c = c.loop-place.invariant

pub returns-in-Some-clause-within : goal.returns-in-Some-clause-within
returns-in-Some-clause-within c = omega (arith, c.loop-place-test.true, c.min-until.ensures)

pub returns-in-Some-clause-found : goal.returns-in-Some-clause-found
returns-in-Some-clause-found c = c.in-Some.ensures
