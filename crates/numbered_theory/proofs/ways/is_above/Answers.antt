use Rattle.numbered_facts.proofs.Growing.{then, same}
use Rattle.numbered_branches.proofs.Growing.{below}
use Rattle.numbered_theory.proofs.ways.is_above.Goals as goal

pub make-requires-3 : goal.make-requires-3
make-requires-3 c = (c.in_ok-zero.ensures.gives.0, (below c.make.new.self c.make-2.new.self c.in_ok-sum.sum c.in_ok-zero.ensures.grows c.in_ok-sum.ensures.gives.0, tt))

pub returns-in_err-parts-clause-grows : goal.returns-in_err-parts-clause-grows
returns-in_err-parts-clause-grows c = same c.args.store.now

pub returns-in_err-sum-clause-grows : goal.returns-in_err-sum-clause-grows
returns-in_err-sum-clause-grows c = c.make.ensures.grows

pub returns-in_err-zero-clause-grows : goal.returns-in_err-zero-clause-grows
returns-in_err-zero-clause-grows c = then c.args.store.now c.make.new.self c.make-2.new.self c.in_ok-sum.ensures.grows c.make-2.ensures.grows

pub returns-clause-grows : goal.returns-clause-grows
returns-clause-grows c = then c.args.store.now c.make-2.new.self c.make-3.new.self (then c.args.store.now c.make.new.self c.make-2.new.self c.in_ok-sum.ensures.grows c.in_ok-zero.ensures.grows) c.make-3.ensures.grows
