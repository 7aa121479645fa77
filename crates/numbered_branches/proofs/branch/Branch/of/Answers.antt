use Rattle.numbered_branches.proofs.Standing.{branch_of}
use Rattle.numbered_facts.proofs.Growing.{then}
use Rattle.numbered_branches.proofs.branch.Branch.of.Goals as goal

pub returns-clause-branch : goal.returns-clause-branch
returns-clause-branch c = let i = c.branch.inside in
    branch_of c.fact_numbers.new.store.terms c.term_numbers.new.store.terms c.mark_numbers.new.store.terms c.in_ok-calls.ensures.grows.terms c.in_ok-marks.ensures.grows.terms
    c.in_ok-facts.facts.items c.in_ok-calls.calls.items c.in_ok-marks.marks.items c.in_ok-vars.vars.items i.next c.deref.result.now i.facts.items c.deref-2.result.now i.calls.items c.deref-3.result.now i.marks.items c.deref-4.result.now i.vars.items c.args.branch.now
    c.in_ok-facts.ensures.facts c.in_ok-calls.ensures.numbers c.in_ok-marks.ensures.marks c.in_ok-vars.ensures c.deref.ensures.value c.deref-2.ensures.value c.deref-3.ensures.value c.deref-4.ensures.value c.branch.view_is

pub returns-in_err-calls-clause-grows : goal.returns-in_err-calls-clause-grows
returns-in_err-calls-clause-grows c = then c.args.store.now c.fact_numbers.new.store c.term_numbers.new.store c.in_ok-facts.ensures.grows c.term_numbers.ensures.grows

pub returns-in_err-marks-clause-grows : goal.returns-in_err-marks-clause-grows
returns-in_err-marks-clause-grows c = then c.args.store.now c.term_numbers.new.store c.mark_numbers.new.store (then c.args.store.now c.fact_numbers.new.store c.term_numbers.new.store c.in_ok-facts.ensures.grows c.in_ok-calls.ensures.grows) c.mark_numbers.ensures.grows

pub returns-in_err-vars-clause-grows : goal.returns-in_err-vars-clause-grows
returns-in_err-vars-clause-grows c = then c.args.store.now c.term_numbers.new.store c.mark_numbers.new.store (then c.args.store.now c.fact_numbers.new.store c.term_numbers.new.store c.in_ok-facts.ensures.grows c.in_ok-calls.ensures.grows) c.in_ok-marks.ensures.grows

pub returns-clause-grows : goal.returns-clause-grows
returns-clause-grows c = then c.args.store.now c.term_numbers.new.store c.mark_numbers.new.store (then c.args.store.now c.fact_numbers.new.store c.term_numbers.new.store c.in_ok-facts.ensures.grows c.in_ok-calls.ensures.grows) c.in_ok-marks.ensures.grows
