use Rattle.std.proofs.Common.{◌∙◌, sym, ap, subst, IfOk}
use Rattle.logic_core.specs.Sum.{term_of}
use Rattle.term_bank.specs.Numbered.{at}
use Rattle.numbered_terms.specs.At.{IsAt}
use Rattle.numbered_facts.proofs.Quotients.{equal_divided, equal_never, equal_whole}
use Rattle.term_bank.proofs.Numbers.{begins_same, begins_then}
use Rattle.numbered_facts.proofs.tightening.tight_equal.Goals as goal

pub returns-then-divides-clause-gives : goal.returns-then-divides-clause-gives
returns-then-divides-clause-gives c =
    let d = at c.args.terms.now c.args.d in let us = c.make.new.terms in
    let made = c.in_ok-quotient.ensures.gives.1 ∙ ap term_of c.in_ok-sum.ensures.is in
    subst (λ t. IfOk c.equals_zero.result (λ i. IsAt c.equals_zero.new.terms i t))
    (equal_divided d c.divisor_of-g.result c.divisor_of-g.ensures c.if-g-gt1.true (sym c.divides.ensures ∙ c.if-divides.true) (at us c.in_ok-quotient.quotient) made) c.equals_zero.ensures.gives

pub returns-then-g-gt1-clause-gives : goal.returns-then-g-gt1-clause-gives
returns-then-g-gt1-clause-gives c = let d = at c.args.terms.now c.args.d in
    subst (λ t. IfOk c.make-then-g-gt1.result (λ i. IsAt c.make-then-g-gt1.new.self i t)) (equal_never d c.divisor_of-g.result c.divisor_of-g.ensures c.if-g-gt1.true (sym c.divides.ensures ∙ c.if-divides.false)) c.make-then-g-gt1.ensures.number

pub returns-clause-gives : goal.returns-clause-gives
returns-clause-gives c = let d = at c.args.terms.now c.args.d in
    subst (λ t. IfOk c.equals_zero-2.result (λ i. IsAt c.equals_zero-2.new.terms i t)) (equal_whole d c.divisor_of-g.result c.divisor_of-g.ensures c.if-g-gt1.false) c.equals_zero-2.ensures.gives

pub returns-then-divides-clause-grows : goal.returns-then-divides-clause-grows
returns-then-divides-clause-grows c = begins_then c.args.terms.now c.make.new.terms c.equals_zero.new.terms c.make.ensures.grows c.equals_zero.ensures.grows
