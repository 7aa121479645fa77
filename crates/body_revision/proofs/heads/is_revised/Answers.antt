use Rattle.std.proofs.Common.{◌∙◌, sym, ap, inr}
use Rattle.std.specs.Prelude.{is_some}
use Rattle.std.proofs.lemmas.Result.{IfOk-weaker}
use Rattle.body_revision.proofs.ComparedHeads.{alike_revised, revised_alike, no_procedure, no_procedure_new}
use Rattle.body_revision.proofs.heads.is_revised.Goals as goal

pub returns-in-Some-parts_of-clause-equal : goal.returns-in-Some-parts_of-clause-equal
returns-in-Some-parts_of-clause-equal c =
    IfOk-weaker c.is_other_procedure.result _ _ (λ b h t. alike_revised _ _ _ _ _ _ _ _ _ _ _ _ c.in-Some.ensures.parts c.in-Some-parts_of.ensures.parts (h t)) c.is_other_procedure.ensures.equal

pub returns-in-Some-parts_of-clause-told : goal.returns-in-Some-parts_of-clause-told
returns-in-Some-parts_of-clause-told c =
    IfOk-weaker c.is_other_procedure.result _ _ (λ b h r. h (revised_alike _ _ _ _ _ _ _ _ _ _ _ _ c.in-Some.ensures.parts c.in-Some-parts_of.ensures.parts r)) c.is_other_procedure.ensures.told

pub returns-in-None-parts_of-clause-told : goal.returns-in-None-parts_of-clause-told
returns-in-None-parts_of-clause-told c r = absurd (no_procedure_new _ _ (sym c.parts_of.ensures.told ∙ ap is_some c.in-Some.is) (sym c.parts_of-in-Some.ensures.told ∙ ap is_some c.in-None-parts_of.is) r)

pub returns-in-None-clause-equal : goal.returns-in-None-clause-equal
returns-in-None-clause-equal c = IfOk-weaker c.is_other_plain.result _ _ (λ b h t. inr (h t)) c.is_other_plain.ensures.equal

pub returns-in-None-clause-told : goal.returns-in-None-clause-told
returns-in-None-clause-told c = IfOk-weaker c.is_other_plain.result _ _ (λ b h r. h (no_procedure _ _ (sym c.parts_of.ensures.told ∙ ap is_some c.in-None.is) r)) c.is_other_plain.ensures.told
