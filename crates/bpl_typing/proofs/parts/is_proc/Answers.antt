use Rattle.std.proofs.Common.{◌∙◌, ap}
use Rattle.bpl_model.specs.TypedTest.{is_typed_proc}
use Rattle.bpl_typing.proofs.parts.is_proc.Goals as goal

pub returns : goal.returns
returns c =
    let vars = c.in_ok-vars.ensures in
    let procs = c.deref.ensures.value ∙ ap (λ m. m.procs) c.parts.view_is in
    c.in_ok-typed.ensures ∙ (λ i. is_typed_proc c.args.defs.now (procs i) (vars i) c.args.proc.now)
