use Rattle.numbered_facts.proofs.Growing.{then}
use Rattle.numbered_branches.proofs.played.Move.of.Goals as goal

pub returns-in_err-made-clause-grows : goal.returns-in_err-made-clause-grows
returns-in_err-made-clause-grows c = then c.args.store.now c.ending_number.new.store c.made_numbers.new.store c.in_ok-ending.ensures.grows c.made_numbers.ensures.grows

pub returns-clause-grows : goal.returns-clause-grows
returns-clause-grows c = then c.args.store.now c.ending_number.new.store c.made_numbers.new.store c.in_ok-ending.ensures.grows c.in_ok-made.ensures.grows
