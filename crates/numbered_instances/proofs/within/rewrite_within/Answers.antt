use Rattle.numbered_facts.proofs.Growing.{then}
use Rattle.numbered_instances.proofs.within.rewrite_within.Goals as goal

pub returns-then-is_there-clause-grows : goal.returns-then-is_there-clause-grows
returns-then-is_there-clause-grows c = then c.args.store.now c.occurs.new.self c.replaced_form.new.self c.occurs.ensures.grows c.replaced_form.ensures.grows
