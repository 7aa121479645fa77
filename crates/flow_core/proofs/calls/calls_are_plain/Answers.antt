use Rattle.std.proofs.Common.{get_or, ◌∙◌, subst}
use Rattle.std.proofs.lemmas.List.{get_or_default}
use Rattle.flow_core.specs.declared.block.Block.{Block}
use Rattle.flow_core.specs.Plain.{OwnsItsCalls}
use Rattle.flow_core.proofs.Lists.{below_next}
use Rattle.flow_core.proofs.calls.calls_are_plain.Goals as goal

pub loop-block-preserved : goal.loop-block-preserved
loop-block-preserved c k d h =
    let P : Block → Type 0 = OwnsItsCalls c.args.own in
    below_next (λ k. P (get_or c.args.blocks.now k d)) c.loop-block.block-index (λ j l. c.loop-block.invariant j d l)
    (subst P (c.block-item.is ∙ get_or_default c.args.blocks.now c.loop-block.block-index c.block-item.result d c.loop-block-test.true) (c.owns_its_calls.ensures.0 c.if-not-owns_its_calls.false)) k h
