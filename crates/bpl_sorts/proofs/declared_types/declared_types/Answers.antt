use Rattle.std.proofs.Common.{◌≡◌, ◌∙◌, ap, subst}
use Rattle.std.proofs.lemmas.Result.{IfOk-weaker}
use Rattle.bpl_scopes.specs.Scopes.{table_of}
use Rattle.bpl_sorts.specs.DeclaredTypes.{Types, types_over, declared_types}
use Rattle.bpl_sorts.specs.TypesView.{IsListed}
use Rattle.bpl_sorts.proofs.declared_types.declared_types.Goals as goal

pub returns : goal.returns
returns c =
    let known : c.in_ok-known.known ≡ table_of c.args.program.now = c.in_ok-known.ensures ∙ (c.in_ok-table.ensures.table ∙ ap table_of (c.deref.ensures.value ∙ c.program.view_is)) in
    let same : types_over c.in_ok-known.known c.in_ok-erased.erased ≡ declared_types c.args.program.now = λ i. types_over (known i) (c.in_ok-erased.ensures i) in
    IfOk-weaker c.types_in.result (IsListed (types_over c.in_ok-known.known c.in_ok-erased.erased)) (IsListed (declared_types c.args.program.now))
    (λ a l. subst (λ (T : Types). IsListed T a) same l) c.types_in.ensures
