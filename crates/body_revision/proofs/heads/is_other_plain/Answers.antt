use Rattle.std.proofs.Common.{◌∙◌, sym, inl, inr}
use Rattle.std.proofs.lemmas.Result.{IfOk-weaker}
use Rattle.body_revision.proofs.ComparedHeads.{one_of_both}
use Rattle.body_revision.proofs.heads.is_other_plain.Goals as goal

pub returns-then-is_other_implementation-clause-equal : goal.returns-then-is_other_implementation-clause-equal
returns-then-is_other_implementation-clause-equal c t = inl (c.is_other_implementation.ensures.equal c.if-is_other_implementation.true)

pub returns-else-is_other_implementation-clause-equal : goal.returns-else-is_other_implementation-clause-equal
returns-else-is_other_implementation-clause-equal c = IfOk-weaker c.is_other_fact.result _ _ (λ b h t. inr (h t)) c.is_other_fact.ensures.equal

pub returns-else-is_other_implementation-clause-told : goal.returns-else-is_other_implementation-clause-told
returns-else-is_other_implementation-clause-told c = IfOk-weaker c.is_other_fact.result _ _ (λ b h. one_of_both c.is_other_implementation.result b c.if-is_other_implementation.false c.is_other_implementation.ensures.told h) c.is_other_fact.ensures.told
