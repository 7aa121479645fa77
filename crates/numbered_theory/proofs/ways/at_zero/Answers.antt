use Rattle.numbered_facts.proofs.Growing.{then}
use Rattle.numbered_branches.proofs.Growing.{below}
use Rattle.numbered_theory.proofs.ways.at_zero.Goals as goal

pub make-requires-2 : goal.make-requires-2
make-requires-2 c = (below c.args.store.now c.make.new.self c.args.d c.in_ok-zero.ensures.grows c.requires, (c.in_ok-zero.ensures.gives.0, tt))

pub returns-in_err-zero-clause-grows : goal.returns-in_err-zero-clause-grows
returns-in_err-zero-clause-grows c = c.make.ensures.grows

pub returns-clause-grows : goal.returns-clause-grows
returns-clause-grows c = then c.args.store.now c.make.new.self c.make-2.new.self c.in_ok-zero.ensures.grows c.make-2.ensures.grows
