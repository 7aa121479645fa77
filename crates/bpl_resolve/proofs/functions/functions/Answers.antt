use Rattle.std.proofs.Common.{◌≡◌, ◌∙◌, flat_map, slice_get}
use Rattle.std.proofs.lemmas.Result.{IfOk-weaker}
use Rattle.bpl_scopes.specs.CountsView.{counts_seen}
use Rattle.bpl_resolve.specs.Elaborate.{typed_module}
use Rattle.bpl_resolve.specs.Places.{function_at}
use Rattle.bpl_resolve.proofs.PlacedFunctions.{functions_made}
use Rattle.bpl_resolve.proofs.functions.functions.Goals as goal

pub returns : goal.returns
returns c = IfOk-weaker c.functions_at.result (λ v. v.items ≡ flat_map (λ i. function_at c.args.declared.now.environment.now (counts_seen c.args.declared.now.counts) (slice_get c.args.decls.now i)) c.deref.result.now)
    (λ v. v.items ≡ (typed_module c.args.decls.now c.args.declared.now.environment.now (counts_seen c.args.declared.now.counts)).functions)
    (λ v made. made ∙ functions_made c.args.decls.now c.args.declared.now.environment.now (counts_seen c.args.declared.now.counts) c.args.order.now c.deref.result.now c.requires.faultless c.requires.table c.requires.order (c.deref.ensures.value ∙ c.in_ok-places.ensures))
    c.functions_at.ensures
