use Rattle.std.proofs.Common.{sym, ap, ◌∙◌}
use Rattle.logic_core.specs.Combine.{lead}
use Rattle.logic_core.specs.Sum.{Linear}
use Rattle.numbered_theory.proofs.OppositeSides.{none_opposite}
use Rattle.numbered_theory.proofs.undecided.is_opposite_to_side.Goals as goal

pub has_opposite-requires-clause-mine : goal.has_opposite-requires-clause-mine
has_opposite-requires-clause-mine c = record { first = c.lead-found.result; is = c.lead-found.ensures.is ∙ sym (ap (λ (s : Linear). lead s) c.in_ok-form.ensures.is); within = c.lead-found.ensures.within; atom_is = sym c.signed_atom-mine.ensures }

pub returns : goal.returns
returns c = sym (none_opposite c.args.terms.now c.args.leads.now.above c.args.leads.now.below c.args.high (c.may_be_opposite.ensures c.if-may_be_opposite.false) c.args.sides.now c.requires.noted)
