use Rattle.std.proofs.Common.{◌∙◌, sym}
use Rattle.body_revision.proofs.OtherAxioms.{both_axioms, axioms_both}
use Rattle.body_revision.proofs.axioms.is_other_axiom.Goals as goal

pub returns-clause-equal : goal.returns-clause-equal
returns-clause-equal c t = both_axioms _ _ (sym c.are_axioms.ensures ∙ t)

pub returns-clause-told : goal.returns-clause-told
returns-clause-told c r = c.are_axioms.ensures ∙ axioms_both _ _ r
