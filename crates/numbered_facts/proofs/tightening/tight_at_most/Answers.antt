use Rattle.std.proofs.Common.{◌∙◌, ap, subst, IfOk}
use Rattle.logic_core.specs.Sum.{term_of}
use Rattle.term_bank.specs.Numbered.{at}
use Rattle.numbered_terms.specs.At.{IsAt}
use Rattle.numbered_facts.proofs.Quotients.{at_most_divided, at_most_whole}
use Rattle.term_bank.proofs.Numbers.{begins_same, begins_then}
use Rattle.numbered_facts.proofs.tightening.tight_at_most.Goals as goal

pub returns-then-g-gt1-clause-gives : goal.returns-then-g-gt1-clause-gives
returns-then-g-gt1-clause-gives c =
    let d = at c.args.terms.now c.args.d in let us = c.make.new.terms in
    let made = c.in_ok-quotient.ensures.gives.1 ∙ ap term_of c.in_ok-sum.ensures.is in
    subst (λ t. IfOk c.zero_at_most.result (λ i. IsAt c.zero_at_most.new.terms i t)) (at_most_divided d c.divisor_of-g.result c.divisor_of-g.ensures c.if-g-gt1.true (at us c.in_ok-quotient.quotient) made) c.zero_at_most.ensures.gives

pub returns-clause-gives : goal.returns-clause-gives
returns-clause-gives c = let d = at c.args.terms.now c.args.d in
    subst (λ t. IfOk c.zero_at_most-2.result (λ i. IsAt c.zero_at_most-2.new.terms i t)) (at_most_whole d c.divisor_of-g.result c.divisor_of-g.ensures c.if-g-gt1.false) c.zero_at_most-2.ensures.gives

pub returns-then-g-gt1-clause-grows : goal.returns-then-g-gt1-clause-grows
returns-then-g-gt1-clause-grows c = begins_then c.args.terms.now c.make.new.terms c.zero_at_most.new.terms c.make.ensures.grows c.zero_at_most.ensures.grows
