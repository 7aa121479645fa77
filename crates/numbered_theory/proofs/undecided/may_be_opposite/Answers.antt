use Rattle.std.proofs.Common.{sym, ◌∙◌}
use Rattle.numbered_theory.proofs.OppositeSides.{apart_from}
use Rattle.numbered_theory.proofs.undecided.may_be_opposite.Goals as goal

pub returns : goal.returns
returns c h s noted =
    let says = rw c.side_entry.ensures at c.may_meet.ensures in
    apart_from c.args.terms.now c.args.leads.now.above c.args.leads.now.below c.args.high c.lead-found.result c.lead-found.ensures.is (sym c.has_no_sign.ensures ∙ c.if-has_no_sign.false) (says h) s noted
