use Rattle.std.proofs.Common.{ap, ◌∙◌, ◌++◌, slice_get}
use Rattle.bpl_scopes.specs.CountsView.{counts_seen}
use Rattle.bpl_resolve.specs.Places.{function_at}
use Rattle.bpl_resolve.proofs.ListSteps.{numbers_pushed}
use Rattle.bpl_resolve.proofs.functions.functions_at.Goals as goal

pub loop-place-preserved : goal.loop-place-preserved
loop-place-preserved c = numbers_pushed (λ i. function_at c.args.declared.now.environment.now (counts_seen c.args.declared.now.counts) (slice_get c.args.decls.now i)) c.args.places.now c.loop-place.place-index
    c.loop-place.functions.items c.push_declared.new.functions.items _ c.loop-place-test.true
    (c.in_ok-push_declared.ensures ∙ ap (λ o. c.loop-place.functions.items ++ function_at c.args.declared.now.environment.now (counts_seen c.args.declared.now.counts) o) c.decl_at-decl.ensures) c.loop-place.invariant
