use Rattle.term_bank.specs.Numbered.{at}
use Rattle.numbered_logic.proofs.TwoCases.{unequal_none, unequal_some, unequal_made, are_some}
use Rattle.numbered_facts.proofs.Growing.{then}
use Rattle.numbered_logic.proofs.splitting.differing_cases.Goals as goal

pub returns-then-not-boolean-clause-cases : goal.returns-then-not-boolean-clause-cases
returns-then-not-boolean-clause-cases c = let n = c.args.store.now in unequal_none n.defs n.vars (at n.terms c.args.p) (at n.terms c.args.q) c.in_ok-boolean.boolean c.in_ok-boolean.ensures.is c.if-not-boolean.true

pub returns-clause-cases : goal.returns-clause-cases
returns-clause-cases c =
    let n = c.args.store.now in let m = c.is_boolean.new.self in let o = c.nots.new.store in let p = c.args.p in let q = c.args.q in let sides = c.in_ok-sides.sides in
    are_some (c.two_cases.new.store).terms c.in_ok-cases.cases _ _ _ c.in_ok-cases.ensures.cases
    (unequal_made n m o c.is_boolean.ensures.grows c.nots.ensures.grows p q sides.0 sides.1 c.requires.p c.requires.q c.in_ok-sides.ensures.first c.in_ok-sides.ensures.second)
    (unequal_some n.defs n.vars (at n.terms p) (at n.terms q) c.in_ok-boolean.boolean c.in_ok-boolean.ensures.is c.if-not-boolean.false)

pub returns-in_err-sides-clause-grows : goal.returns-in_err-sides-clause-grows
returns-in_err-sides-clause-grows c = then c.args.store.now c.is_boolean.new.self c.nots.new.store c.is_boolean.ensures.grows c.nots.ensures.grows

pub returns-in_err-cases-clause-grows : goal.returns-in_err-cases-clause-grows
returns-in_err-cases-clause-grows c = then c.args.store.now c.nots.new.store c.two_cases.new.store (then c.args.store.now c.is_boolean.new.self c.nots.new.store c.is_boolean.ensures.grows c.nots.ensures.grows) c.two_cases.ensures.grows

pub returns-clause-grows : goal.returns-clause-grows
returns-clause-grows c = then c.args.store.now c.nots.new.store c.two_cases.new.store (then c.args.store.now c.is_boolean.new.self c.nots.new.store c.is_boolean.ensures.grows c.nots.ensures.grows) c.two_cases.ensures.grows
