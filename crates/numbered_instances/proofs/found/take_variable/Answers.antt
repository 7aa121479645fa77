use Rattle.std.proofs.Common.{◌∙◌, sym, ap, Some, slice_set}
use Rattle.std.proofs.lemmas.Bool.{ltb-true}
use Rattle.logic_core.specs.Wide.{when}
use Rattle.term_bank.specs.Numbered.{at}
use Rattle.numbered_instances.specs.Finding.{found_at}
use Rattle.numbered_instances.proofs.FoundAt.{of_sort, set_at, got_kind}
use Rattle.numbered_instances.proofs.found.take_variable.Goals as goal

pub returns-then-fits-clause-gives : goal.returns-then-fits-clause-gives
returns-then-fits-clause-gives c =
    let ts = c.args.terms.now in let b = c.args.found.now.items in
    of_sort c.args.vars.now c.args.defs.now c.args.kinds.now ts b c.args.number (at ts c.args.term) c.in-Some.kind.now c.in_ok-fits.fits (got_kind c.args.kinds.now c.args.number c.in-Some.kind.now (ltb-true c.args.number _ (sym c.in-Some.ensures.lookup.0)) c.in-Some.ensures.lookup.1) c.in_ok-fits.ensures
    ∙ ap (λ q. when q (Some (slice_set (found_at ts b) c.args.number (Some (at ts c.args.term))))) c.if-fits.true
    ∙ ap Some (sym (set_at ts b c.args.number c.args.term) ∙ ap (found_at ts) (sym c.put_term.ensures))

pub returns-clause-gives : goal.returns-clause-gives
returns-clause-gives c =
    let ts = c.args.terms.now in let b = c.args.found.now.items in
    of_sort c.args.vars.now c.args.defs.now c.args.kinds.now ts b c.args.number (at ts c.args.term) c.in-Some.kind.now c.in_ok-fits.fits (got_kind c.args.kinds.now c.args.number c.in-Some.kind.now (ltb-true c.args.number _ (sym c.in-Some.ensures.lookup.0)) c.in-Some.ensures.lookup.1) c.in_ok-fits.ensures
    ∙ ap (λ q. when q (Some (slice_set (found_at ts b) c.args.number (Some (at ts c.args.term))))) c.if-fits.false
