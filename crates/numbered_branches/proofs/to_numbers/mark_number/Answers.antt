use Rattle.numbered_branches.proofs.Standing.{mark_made}
use Rattle.numbered_facts.proofs.Growing.{then}
use Rattle.numbered_branches.proofs.to_numbers.mark_number.Goals as goal

pub returns-clause-mark : goal.returns-clause-mark
returns-clause-mark c = mark_made c.number.new.self.terms c.term_numbers.new.store.terms c.make.new.self.terms c.in_ok-tuple.ensures.grows.terms c.in_ok-tuple-2.ensures.grows.terms
    c.in_ok-fact.fact c.in_ok-tuple-2.tuple c.in_ok-tuple.tuple.items c.args.mark.now c.mark.inside.fact c.as_slice.result.now c.mark.inside.tuple c.in_ok-fact.ensures.gives c.in_ok-tuple.ensures.numbers c.in_ok-tuple-2.ensures.gives c.mark.view_is c.as_slice.ensures

pub returns-in_err-tuple-clause-grows : goal.returns-in_err-tuple-clause-grows
returns-in_err-tuple-clause-grows c = then c.args.store.now c.number.new.self c.term_numbers.new.store c.in_ok-fact.ensures.grows c.term_numbers.ensures.grows

pub returns-in_err-tuple-2-clause-grows : goal.returns-in_err-tuple-2-clause-grows
returns-in_err-tuple-2-clause-grows c = then c.args.store.now c.term_numbers.new.store c.make.new.self (then c.args.store.now c.number.new.self c.term_numbers.new.store c.in_ok-fact.ensures.grows c.in_ok-tuple.ensures.grows) c.make.ensures.grows

pub returns-clause-grows : goal.returns-clause-grows
returns-clause-grows c = then c.args.store.now c.term_numbers.new.store c.make.new.self (then c.args.store.now c.number.new.self c.term_numbers.new.store c.in_ok-fact.ensures.grows c.in_ok-tuple.ensures.grows) c.in_ok-tuple-2.ensures.grows
