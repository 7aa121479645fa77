use Rattle.numbered_logic.proofs.Later.{grows_then, facts_later}
use Rattle.numbered_logic.proofs.apart.join_all.Goals as goal

pub join_each-requires-2-clause-facts : goal.join_each-requires-2-clause-facts
join_each-requires-2-clause-facts c = facts_later c.args.store.now c.join_each.new.store c.args.facts.now c.in_ok-joined.ensures.grows c.requires.facts

pub join_each-requires-2-clause-apart : goal.join_each-requires-2-clause-apart
join_each-requires-2-clause-apart c = c.clear.ensures c.join_each.new.store.terms

pub returns-clause-grows : goal.returns-clause-grows
returns-clause-grows c = grows_then c.args.store.now c.join_each.new.store c.join_each-2.new.store c.in_ok-joined.ensures.grows c.join_each-2.ensures.grows
