use Rattle.term_bank.specs.Numbered.{at}
use Rattle.numbered_branches.proofs.Appending.{next_over, one_fact, one_made}
use Rattle.numbered_branches.proofs.append.append_one.Goals as goal

pub tightened-requires : goal.tightened-requires
tightened-requires c = record { term = c.requires.term; made = next_over c.args.store.now.terms _ c.args.made.now c.take_numbers.new.made c.in_ok-number.ensures.rest c.requires.made }

pub returns-clause-fact : goal.returns-clause-fact
returns-clause-fact c = one_fact c.args.store.now.terms c.tightened.new.store.terms (at c.args.store.now.terms c.args.term) c.args.made.now c.take_numbers.new.made c.in_ok-number.number c.in_ok-number.ensures.number c.in_ok-number.ensures.rest c.tightened.result c.tightened.ensures.fact

pub returns-clause-made : goal.returns-clause-made
returns-clause-made c = one_made c.args.store.now.terms c.tightened.new.store.terms (at c.args.store.now.terms c.args.term) c.args.made.now c.take_numbers.new.made c.in_ok-number.number c.in_ok-number.ensures.number c.in_ok-number.ensures.rest c.tightened.result c.tightened.new.made c.tightened.ensures.made
