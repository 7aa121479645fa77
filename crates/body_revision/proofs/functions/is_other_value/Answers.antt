use Rattle.std.proofs.Common.{◌∙◌, sym}
use Rattle.std.proofs.lemmas.Result.{IfOk-weaker}
use Rattle.body_revision.proofs.functions.is_other_value.Goals as goal

pub returns-then-same_head-clause-equal : goal.returns-then-same_head-clause-equal
returns-then-same_head-clause-equal c = IfOk-weaker c.apply_the_same.result _ _ (λ b h t. (c.same_head.ensures.equal c.if-same_head.true, h t)) c.apply_the_same.ensures.equal

pub returns-then-same_head-clause-told : goal.returns-then-same_head-clause-told
returns-then-same_head-clause-told c = IfOk-weaker c.apply_the_same.result _ _ (λ b h s. h s.1) c.apply_the_same.ensures.told

pub returns-else-same_head-clause-told : goal.returns-else-same_head-clause-told
returns-else-same_head-clause-told c s = sym c.if-same_head.false ∙ c.same_head.ensures.told s.0
