use Rattle.std.proofs.Common.{◌∙◌, sym, ap, subst, option_map, IfOk}
use Rattle.logic_core.specs.Tighten.{tight_not}
use Rattle.term_bank.specs.Numbered.{at}
use Rattle.numbered_terms.specs.At.{IsAt}
use Rattle.numbered_facts.proofs.Quotients.{side_tight, no_side}
use Rattle.term_bank.proofs.Numbers.{begins_same, begins_then}
use Rattle.numbered_facts.proofs.tightening.tighten_not.Goals as goal

pub returns-in_ok-tight-in-Some-clause-gives : goal.returns-in_ok-tight-in-Some-clause-gives
returns-in_ok-tight-in-Some-clause-gives c = let ts = c.args.terms.now in
    subst (λ t. IfOk c.tight_not.result (λ i. IsAt c.tight_not.new.terms i t))
    (ap tight_not c.in_ok-tight-in-Some.ensures.gives.1 ∙ sym (side_tight (at ts c.args.t) (at ts c.in-Some.d) (sym c.side_of.ensures.is ∙ ap (option_map (at ts)) c.in-Some.is))) c.tight_not.ensures.gives

pub returns-in-None-clause-gives : goal.returns-in-None-clause-gives
returns-in-None-clause-gives c = let ts = c.args.terms.now in
    (c.requires.id, c.requires.is ∙ sym (no_side (at ts c.args.t) (sym c.side_of.ensures.is ∙ ap (option_map (at ts)) c.in-None.is)))

pub returns-in_ok-tight-in-Some-clause-grows : goal.returns-in_ok-tight-in-Some-clause-grows
returns-in_ok-tight-in-Some-clause-grows c = begins_then c.args.terms.now c.tight_equal.new.terms c.tight_not.new.terms c.tight_equal.ensures.grows c.tight_not.ensures.grows

pub returns-in-None-clause-grows : goal.returns-in-None-clause-grows
returns-in-None-clause-grows c = begins_same c.args.terms.now
