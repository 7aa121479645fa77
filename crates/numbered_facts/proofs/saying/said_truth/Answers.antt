use Rattle.std.proofs.Common.{◌∙◌, sym, ap, Some}
use Rattle.term_bank.proofs.Numbers.{begins_same}
use Rattle.numbered_facts.proofs.saying.said_truth.Goals as goal

pub returns-in_ok-value-in-Some-clause-gives : goal.returns-in_ok-value-in-Some-clause-gives
returns-in_ok-value-in-Some-clause-gives c = (c.in_ok-value-in-Some.ensures.number.0, sym c.in-Some.ensures ∙ ap Some (sym c.in_ok-value-in-Some.ensures.number.1))

pub returns-in-None-clause-grows : goal.returns-in-None-clause-grows
returns-in-None-clause-grows c = begins_same c.args.terms.now

pub returns-in-None-clause-gives : goal.returns-in-None-clause-gives
returns-in-None-clause-gives c = sym c.in-None.ensures
