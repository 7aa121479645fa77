use Rattle.std.proofs.Common.{◌≡◌, ◌∙◌}
use Rattle.std.proofs.lemmas.Result.{IfOk-weaker}
use Rattle.bpl_scopes.specs.CountsView.{counts_seen}
use Rattle.bpl_scopes.specs.Scopes.{table_of}
use Rattle.bpl_resolve.specs.Elaborate.{typed_module, module_of}
use Rattle.bpl_resolve.proofs.module.parts.Goals as goal

pub returns : goal.returns
returns c =
    let table : c.environment.result.now ≡ table_of c.args.declarations.now = c.environment.ensures ∙ c.dependencies-dependencies.ensures in
    IfOk-weaker c.parts_over.result (λ p. p ≡ typed_module c.decls.result.now c.environment.result.now (counts_seen c.counts.result)) (λ p. p ≡ module_of c.args.declarations.now)
    (λ p made. made ∙ (λ i. typed_module (c.decls.ensures i) (table i) (c.counts.ensures i))) c.parts_over.ensures
