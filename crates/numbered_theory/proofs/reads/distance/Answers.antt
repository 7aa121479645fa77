use Rattle.numbered_facts.proofs.Growing.{then}
use Rattle.numbered_theory.proofs.reads.distance.Goals as goal

pub returns-in_err-difference-clause-grows : goal.returns-in_err-difference-clause-grows
returns-in_err-difference-clause-grows c = c.less.ensures.grows

pub returns-clause-grows : goal.returns-clause-grows
returns-clause-grows c = then c.args.store.now c.less.new.store c.normal.new.self c.in_ok-difference.ensures.grows c.normal.ensures.grows
