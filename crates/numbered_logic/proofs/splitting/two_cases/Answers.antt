use Rattle.numbered_facts.proofs.Growing.{then}
use Rattle.numbered_logic.proofs.splitting.two_cases.Goals as goal

pub returns-in_err-other-clause-grows : goal.returns-in_err-other-clause-grows
returns-in_err-other-clause-grows c = then c.args.store.now c.both.new.store c.both-2.new.store c.both.ensures.grows c.both-2.ensures.grows

pub returns-clause-grows : goal.returns-clause-grows
returns-clause-grows c = then c.args.store.now c.both.new.store c.both-2.new.store c.both.ensures.grows c.both-2.ensures.grows
