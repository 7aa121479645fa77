use Rattle.std.proofs.Common.{◌∙◌, sym}
use Rattle.std.proofs.lemmas.Result.{IfOk-weaker}
use Rattle.body_revision.proofs.heads.is_other_procedure.Goals as goal

pub returns-then-same_parts-clause-equal : goal.returns-then-same_parts-clause-equal
returns-then-same_parts-clause-equal c = IfOk-weaker c.same_modified.result _ _ (λ b h t. (h t, c.same_parts.ensures.equal c.if-same_parts.true)) c.same_modified.ensures.equal

pub returns-then-same_parts-clause-told : goal.returns-then-same_parts-clause-told
returns-then-same_parts-clause-told c = IfOk-weaker c.same_modified.result _ _ (λ b h s. h s.0) c.same_modified.ensures.told

pub returns-else-same_parts-clause-told : goal.returns-else-same_parts-clause-told
returns-else-same_parts-clause-told c s = sym c.if-same_parts.false ∙ c.same_parts.ensures.told s.1
