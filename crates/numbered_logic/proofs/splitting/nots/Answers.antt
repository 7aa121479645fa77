use Rattle.numbered_facts.proofs.Growing.{then}
use Rattle.numbered_logic.proofs.splitting.nots.Goals as goal

pub returns-in_err-no_q-clause-grows : goal.returns-in_err-no_q-clause-grows
returns-in_err-no_q-clause-grows c = then c.args.store.now c.not.new.store c.not-2.new.store c.not.ensures.grows c.not-2.ensures.grows

pub returns-clause-grows : goal.returns-clause-grows
returns-clause-grows c = then c.args.store.now c.not.new.store c.not-2.new.store c.not.ensures.grows c.not-2.ensures.grows
