use Rattle.std.proofs.Common.{◌∷◌, [], ◌++◌, ◌∙◌, ap, sym, map, take}
use Rattle.std.proofs.lemmas.List.{map_more}
use Rattle.block_wp.specs.Equations.{block_call}
use Rattle.block_wp.proofs.reached.Reached.block_calls.Goals as goal

pub loop-block-preserved : goal.loop-block-preserved
loop-block-preserved c =
    let f = block_call c.args.self.now.given c.args.self.now.blocks in
    let blocks = c.args.blocks.now in
    let i = c.loop-block.block-index in
    c.in_ok-push.ensures.items
    ∙ ap (λ xs. xs ++ c.block_call.result ∷ []) c.loop-block.invariant
    ∙ ap (λ t. map f (take i blocks) ++ t ∷ []) c.block_call.ensures
    ∙ sym (map_more f blocks i 0 c.loop-block-test.true)
