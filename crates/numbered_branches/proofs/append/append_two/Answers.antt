use Rattle.std.proofs.Common.{arith}
use Rattle.term_bank.proofs.Numbers.{begins_length}
use Rattle.numbered_branches.proofs.Appending.{next_over, two_first, two_second, two_made}
use Rattle.numbered_facts.proofs.Growing.{then}
use Rattle.numbered_branches.proofs.append.append_two.Goals as goal

pub tightened-requires : goal.tightened-requires
tightened-requires c = record { term = c.requires.first; made = next_over c.args.store.now.terms _ c.args.made.now c.take_numbers.new.made c.in_ok-number.ensures.rest c.requires.made }

pub tightened-requires-2 : goal.tightened-requires-2
tightened-requires-2 c = record { term = omega (arith, c.requires.second, begins_length c.args.store.now.terms c.tightened.new.store.terms c.in_ok-first.ensures.grows.terms); made = c.in_ok-first.ensures.made.0 }

pub returns-clause-first : goal.returns-clause-first
returns-clause-first c = two_first c.args.store.now.terms c.tightened.new.store.terms c.tightened-2.new.store.terms c.in_ok-first.ensures.grows.terms c.in_ok-second.ensures.grows.terms
    c.args.made.now c.take_numbers.new.made c.tightened.new.made c.tightened-2.new.made c.args.first c.args.second c.in_ok-number.number c.in_ok-number.ensures.number c.in_ok-number.ensures.rest c.requires.first c.requires.second
    c.in_ok-first.ensures.made c.in_ok-second.ensures.made c.in_ok-first.first c.in_ok-first.ensures.fact

pub returns-clause-second : goal.returns-clause-second
returns-clause-second c = two_second c.args.store.now.terms c.tightened.new.store.terms c.tightened-2.new.store.terms c.in_ok-first.ensures.grows.terms c.in_ok-second.ensures.grows.terms
    c.args.made.now c.take_numbers.new.made c.tightened.new.made c.tightened-2.new.made c.args.first c.args.second c.in_ok-number.number c.in_ok-number.ensures.number c.in_ok-number.ensures.rest c.requires.first c.requires.second
    c.in_ok-first.ensures.made c.in_ok-second.ensures.made c.in_ok-second.second c.in_ok-second.ensures.fact

pub returns-clause-made : goal.returns-clause-made
returns-clause-made c = two_made c.args.store.now.terms c.tightened.new.store.terms c.tightened-2.new.store.terms c.in_ok-first.ensures.grows.terms c.in_ok-second.ensures.grows.terms
    c.args.made.now c.take_numbers.new.made c.tightened.new.made c.tightened-2.new.made c.args.first c.args.second c.in_ok-number.number c.in_ok-number.ensures.number c.in_ok-number.ensures.rest c.requires.first c.requires.second
    c.in_ok-first.ensures.made c.in_ok-second.ensures.made

pub returns-in_err-second-clause-grows : goal.returns-in_err-second-clause-grows
returns-in_err-second-clause-grows c = then c.args.store.now c.tightened.new.store c.tightened-2.new.store c.in_ok-first.ensures.grows c.tightened-2.ensures.grows

pub returns-clause-grows : goal.returns-clause-grows
returns-clause-grows c = then c.args.store.now c.tightened.new.store c.tightened-2.new.store c.in_ok-first.ensures.grows c.in_ok-second.ensures.grows
