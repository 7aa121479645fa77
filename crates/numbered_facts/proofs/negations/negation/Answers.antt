use Rattle.std.proofs.Common.{◌∙◌, sym, subst}
use Rattle.logic_core.specs.Junction.{negated}
use Rattle.term_bank.proofs.Numbers.{begins_at, begins_same}
use Rattle.numbered_terms.proofs.Walking.{still_below}
use Rattle.numbered_forms.proofs.Memos.{kept_more, kept_alike}
use Rattle.numbered_facts.specs.Answers.{StandsFor}
use Rattle.numbered_facts.specs.Memos.{IsNegation}
use Rattle.numbered_facts.proofs.Later.{negations_later}
use Rattle.numbered_facts.proofs.negations.negation.Goals as goal

pub returns-in-Some-clause-gives : goal.returns-in-Some-clause-gives
returns-in-Some-clause-gives c = (c.requires.right c.args.id c.in-Some.found (sym c.kept.ensures ∙ c.in-Some.is)).1

pub returns-in_err-negation-clause-right : goal.returns-in_err-negation-clause-right
returns-in_err-negation-clause-right c = negations_later c.args.terms.now c.negation_of.new.terms c.negation_of.ensures.grows c.args.negations.now.slots.items c.requires.right

pub returns-in_err-keep-clause-right : goal.returns-in_err-keep-clause-right
returns-in_err-keep-clause-right c = kept_alike (IsNegation c.negation_of.new.terms) c.args.negations.now.slots.items c.keep.new.memo.slots.items c.in_err-keep.ensures.memory (negations_later c.args.terms.now c.negation_of.new.terms c.negation_of.ensures.grows c.args.negations.now.slots.items c.requires.right)

pub returns-clause-right : goal.returns-clause-right
returns-clause-right c = let ts = c.args.terms.now in let us = c.negation_of.new.terms in let b = c.negation_of.ensures.grows in
    kept_more (IsNegation us) c.args.negations.now.slots.items c.keep.new.memo.slots.items c.args.id c.in_ok-negation.negation c.in_ok-keep.ensures.ok (negations_later ts us b c.args.negations.now.slots.items c.requires.right)
    (still_below ts us c.args.id b c.requires.id, subst (λ t. StandsFor us c.in_ok-negation.negation (negated t)) (sym (begins_at ts us c.args.id b c.requires.id)) c.in_ok-negation.ensures.gives)

pub returns-in-Some-clause-grows : goal.returns-in-Some-clause-grows
returns-in-Some-clause-grows c = begins_same c.args.terms.now
