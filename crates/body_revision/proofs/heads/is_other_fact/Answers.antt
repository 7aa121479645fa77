use Rattle.std.proofs.Common.{◌∙◌, sym, inl, inr}
use Rattle.std.proofs.lemmas.Result.{IfOk-weaker}
use Rattle.body_revision.proofs.ComparedHeads.{one_of_both}
use Rattle.body_revision.proofs.heads.is_other_fact.Goals as goal

pub returns-then-is_other_axiom-clause-equal : goal.returns-then-is_other_axiom-clause-equal
returns-then-is_other_axiom-clause-equal c t = inl (c.is_other_axiom.ensures.equal c.if-is_other_axiom.true)

pub returns-else-is_other_axiom-clause-equal : goal.returns-else-is_other_axiom-clause-equal
returns-else-is_other_axiom-clause-equal c = IfOk-weaker c.is_other_function.result _ _ (λ b h t. inr (h t)) c.is_other_function.ensures.equal

pub returns-else-is_other_axiom-clause-told : goal.returns-else-is_other_axiom-clause-told
returns-else-is_other_axiom-clause-told c = IfOk-weaker c.is_other_function.result _ _ (λ b h. one_of_both c.is_other_axiom.result b c.if-is_other_axiom.false c.is_other_axiom.ensures.told h) c.is_other_function.ensures.told
