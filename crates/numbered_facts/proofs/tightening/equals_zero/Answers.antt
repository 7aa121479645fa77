use Rattle.std.proofs.Common.{subst, IfOk}
use Rattle.term_bank.proofs.Numbers.{begins_then}
use Rattle.numbered_terms.specs.At.{IsAt}
use Rattle.numbered_terms.proofs.Walking.{still_below}
use Rattle.numbered_facts.proofs.Quotients.{equal_later}
use Rattle.numbered_facts.proofs.tightening.equals_zero.Goals as goal

pub make-requires-2 : goal.make-requires-2
make-requires-2 c = (still_below c.args.terms.now c.make.new.self c.args.d c.make.ensures.grows c.requires, (c.in_ok-zero.ensures.number.0, tt))

pub returns-clause-grows : goal.returns-clause-grows
returns-clause-grows c = begins_then c.args.terms.now c.make.new.self c.make-2.new.self c.make.ensures.grows c.make-2.ensures.grows

pub returns-clause-gives : goal.returns-clause-gives
returns-clause-gives c = subst (λ t. IfOk c.make-2.result (λ i. IsAt c.make-2.new.self i t)) (equal_later c.args.terms.now c.make.new.self c.in_ok-zero.zero c.args.d c.make.ensures.grows c.requires c.in_ok-zero.ensures.number.1) c.make-2.ensures.number
