use Rattle.std.proofs.Common.{◌≡◌, ◌∙◌, subst}
use Rattle.std.proofs.lemmas.Result.{IfOk-weaker}
use Rattle.bpl_sorts.specs.DeclaredTypes.{types_over}
use Rattle.bpl_sorts.specs.TypesView.{IsListed}
use Rattle.bpl_sorts.proofs.declared_types.types_in.Goals as goal

pub returns : goal.returns
returns c =
    let same : c.deref.result.now ≡ c.args.program.now = c.deref.ensures.value ∙ c.program.view_is in
    IfOk-weaker c.types_over.result (IsListed (types_over c.args.known.now c.deref.result.now)) (IsListed (types_over c.args.known.now c.args.program.now))
    (λ a l. subst (λ ds. IsListed (types_over c.args.known.now ds) a) same l) c.types_over.ensures
