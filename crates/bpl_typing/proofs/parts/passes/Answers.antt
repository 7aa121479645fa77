use Rattle.std.proofs.Common.{◌∙◌}
use Rattle.bpl_model.specs.TypedTest.{is_typed_over}
use Rattle.bpl_typing.proofs.parts.passes.Goals as goal

pub returns : goal.returns
returns c =
    let defs = c.deref.ensures.value ∙ c.in_ok-defs.ensures in
    let consts = c.deref-2.ensures.value ∙ c.in_ok-consts.ensures in
    let shared = c.deref-3.ensures.value ∙ c.in_ok-shared.ensures in
    c.in_ok-typed.ensures ∙ (λ i. is_typed_over (defs i) (consts i) (shared i) c.args.parts.now)
