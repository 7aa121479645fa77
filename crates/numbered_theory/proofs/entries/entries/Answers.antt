use Rattle.numbered_facts.proofs.Growing.{then}
use Rattle.numbered_theory.proofs.entries.entries.Goals as goal

pub returns-in_err-push_entries-clause-grows : goal.returns-in_err-push_entries-clause-grows
returns-in_err-push_entries-clause-grows c = then c.args.store.now c.loop-fact.store c.push_entries.new.store c.loop-fact.invariant.grows c.push_entries.ensures.grows

pub returns-clause-grows : goal.returns-clause-grows
returns-clause-grows c = c.loop-fact.invariant.grows
