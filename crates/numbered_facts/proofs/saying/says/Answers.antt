use Rattle.std.proofs.Common.{subst, IfOk}
use Rattle.proof_core.specs.Says.{by_equation, by_truth}
use Rattle.term_bank.specs.Numbered.{at}
use Rattle.numbered_facts.specs.Answers.{StandsFor}
use Rattle.numbered_facts.proofs.Coefficients.{said_first, said_next, truth_later}
use Rattle.term_bank.proofs.Numbers.{begins_then}
use Rattle.numbered_terms.proofs.Walking.{still_below}
use Rattle.numbered_facts.proofs.saying.says.Goals as goal

pub returns-in-Some-clause-gives : goal.returns-in-Some-clause-gives
returns-in-Some-clause-gives c = let ts = c.args.terms.now in
    said_first c.by_equation.new.terms _ c.in-Some.said (by_equation (at ts c.args.fact) (at ts c.args.t)) (by_truth (at ts c.args.fact) (at ts c.args.t)) c.in_ok-said.ensures.gives c.in-Some.is

pub returns-in-None-clause-gives : goal.returns-in-None-clause-gives
returns-in-None-clause-gives c = let ts = c.args.terms.now in let us = c.by_equation.new.terms in
    said_next us c.said_truth.new.terms _ c.said_truth.result (by_equation (at ts c.args.fact) (at ts c.args.t)) (by_truth (at ts c.args.fact) (at ts c.args.t)) c.in_ok-said.ensures.gives c.in-None.is
    (subst (λ o. IfOk c.said_truth.result (λ x. StandsFor c.said_truth.new.terms x o)) (truth_later ts us c.in_ok-said.ensures.grows c.args.fact c.args.t c.requires.fact c.requires.t) c.said_truth.ensures.gives)

pub said_truth-requires-clause-fact : goal.said_truth-requires-clause-fact
said_truth-requires-clause-fact c = still_below c.args.terms.now c.by_equation.new.terms c.args.fact c.in_ok-said.ensures.grows c.requires.fact

pub said_truth-requires-clause-t : goal.said_truth-requires-clause-t
said_truth-requires-clause-t c = still_below c.args.terms.now c.by_equation.new.terms c.args.t c.in_ok-said.ensures.grows c.requires.t

pub returns-in-None-clause-grows : goal.returns-in-None-clause-grows
returns-in-None-clause-grows c = begins_then c.args.terms.now c.by_equation.new.terms c.said_truth.new.terms c.in_ok-said.ensures.grows c.said_truth.ensures.grows
