use Rattle.numbered_facts.proofs.Growing.{then}
use Rattle.numbered_instances.proofs.instantiating.instance_of.Goals as goal

pub returns-clause-grows : goal.returns-clause-grows
returns-clause-grows c = then c.args.store.now c.substituted.new.self c.normal.new.self c.substituted.ensures.grows c.normal.ensures.grows
