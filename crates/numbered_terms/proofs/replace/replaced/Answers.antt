use Rattle.std.proofs.Common.{◌∙◌, sym, ap, subst}
use Rattle.logic_core.specs.Subterm.{replaced}
use Rattle.term_bank.specs.Numbered.{at}
use Rattle.term_bank.proofs.Numbers.{begins_at}
use Rattle.numbered_terms.specs.At.{IsAt}
use Rattle.numbered_terms.proofs.Walking.{none_found}
use Rattle.numbered_terms.proofs.replace.replaced.Goals as goal

pub replace_in-requires-clause-right : goal.replace_in-requires-clause-right
replace_in-requires-clause-right c = none_found (replaced (at c.args.terms.now c.args.old) (at c.args.terms.now c.args.new)) c.args.terms.now c.new-found.result.entries c.new-found.ensures.empty

pub returns-clause-gives : goal.returns-clause-gives
returns-clause-gives c =
    let ts = c.args.terms.now in let us = c.replace_in.new.terms in let f = c.in_ok-replace_in.ensures.found in
    let R = replaced (at ts c.args.old) (at ts c.args.new) in
    subst (λ j. IsAt us j (R (at ts c.args.id))) (sym c.new_number.ensures) (f.1.0, f.1.1 ∙ ap R (begins_at ts us c.args.id c.replace_in.ensures.grows c.requires.id))
