use Rattle.std.proofs.Common.{◌∙◌, sym}
use Rattle.std.proofs.lemmas.Result.{IfOk-weaker}
use Rattle.body_revision.proofs.SameApplied.{same_if, same_told}
use Rattle.body_revision.proofs.values.apply_the_same.Goals as goal

pub returns-then-same_quantified-clause-equal : goal.returns-then-same_quantified-clause-equal
returns-then-same_quantified-clause-equal c = IfOk-weaker c.same_applied.result _ _ (λ b h t. same_if c.args.ins.now c.args.mine.now c.args.theirs.now b h (c.same_quantified.ensures.equal c.if-same_quantified.true) t) c.same_applied.ensures

pub returns-then-same_quantified-clause-told : goal.returns-then-same_quantified-clause-told
returns-then-same_quantified-clause-told c = IfOk-weaker c.same_applied.result _ _ (λ b h s. same_told c.args.ins.now c.args.mine.now c.args.theirs.now b h s) c.same_applied.ensures

pub returns-else-same_quantified-clause-told : goal.returns-else-same_quantified-clause-told
returns-else-same_quantified-clause-told c s = sym c.if-same_quantified.false ∙ c.same_quantified.ensures.told (sym s.quantified)
