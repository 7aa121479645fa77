use Rattle.std.proofs.Common.{◌∙◌, ap}
use Rattle.bpl_scopes.specs.Functions.{function_in}
use Rattle.bpl_scopes.specs.Scopes.{entity_of}
use Rattle.bpl_sorts.specs.TypeShapes.{put_at}
use Rattle.bpl_sorts.specs.TypesView.{heads_seen}
use Rattle.bpl_sorts.specs.DeclaredTypes.{head_of}
use Rattle.bpl_sorts.proofs.OrderedHeads.{heads_next}
use Rattle.bpl_sorts.proofs.function_types.heads_in.Goals as goal

pub loop-entry-preserved : goal.loop-entry-preserved
loop-entry-preserved c = heads_next (λ n. head_of c.args.known.now (function_in (entity_of c.args.table.now n))) c.args.order.now c.args.entries.now c.loop-entry.entry-index c.entry-item.result
    (heads_seen c.loop-entry.heads.items) (heads_seen c.put_at.new.heads.items) _ c.loop-entry-test.true c.entry-item.is
    (c.put_at.ensures ∙ (λ i. put_at (c.find.ensures i) ((c.in_ok-head.ensures ∙ ap (λ o. head_of c.args.known.now (function_in o)) c.entity.ensures) i) (heads_seen c.loop-entry.heads.items)))
    c.loop-entry.invariant
