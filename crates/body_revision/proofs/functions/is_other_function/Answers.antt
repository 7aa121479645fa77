use Rattle.std.proofs.Common.{◌∙◌, sym, ap}
use Rattle.std.specs.Prelude.{is_some}
use Rattle.std.proofs.lemmas.Result.{IfOk-weaker}
use Rattle.body_revision.proofs.ComparedHeads.{alike_function, function_alike, no_value, no_value_new}
use Rattle.body_revision.proofs.functions.is_other_function.Goals as goal

pub returns-in-Some-function_parts-clause-equal : goal.returns-in-Some-function_parts-clause-equal
returns-in-Some-function_parts-clause-equal c =
    IfOk-weaker c.is_other_value.result _ _ (λ b h t. alike_function _ _ _ _ _ _ _ _ _ _ _ _ c.in-Some.ensures.value c.in-Some-function_parts.ensures.value (h t).0 (h t).1) c.is_other_value.ensures.equal

pub returns-in-Some-function_parts-clause-told : goal.returns-in-Some-function_parts-clause-told
returns-in-Some-function_parts-clause-told c =
    IfOk-weaker c.is_other_value.result _ _ (λ b h r. h (function_alike _ _ _ _ _ _ _ _ _ _ _ _ c.in-Some.ensures.value c.in-Some-function_parts.ensures.value r)) c.is_other_value.ensures.told

pub returns-in-None-function_parts-clause-told : goal.returns-in-None-function_parts-clause-told
returns-in-None-function_parts-clause-told c r = absurd (no_value_new _ _ (sym c.function_parts-in-Some.ensures.told ∙ ap is_some c.in-None-function_parts.is) r)

pub returns-in-None-clause-told : goal.returns-in-None-clause-told
returns-in-None-clause-told c r = absurd (no_value _ _ (sym c.function_parts.ensures.told ∙ ap is_some c.in-None.is) r)
