use Rattle.std.proofs.Common.{◌∷◌, [], ◌++◌, ◌∙◌, ap, sym, map, arith}
use Rattle.std.specs.List.{range_with_len}
use Rattle.std.proofs.lemmas.List.FromFn.{map-range_with_len_more}
use Rattle.passive_form.specs.Incarnations.{passive_block}
use Rattle.passive_form.proofs.graph.passify.Goals as goal

pub loop-number-preserved : goal.loop-number-preserved
loop-number-preserved c =
    let g = c.args.graph.now in
    let number = c.loop-number.number in
    let ds = c.in_ok-done.done.blocks in
    c.in_ok-push.ensures.items
    ∙ ap (λ xs. xs ++ c.in_ok-block.block ∷ []) c.loop-number.invariant
    ∙ ap (λ k. map (passive_block g ds) (range_with_len 0 number) ++ k ∷ []) (c.in_ok-block.ensures ∙ ap (λ ds. passive_block g ds number) c.as_slice.ensures)
    ∙ sym (map-range_with_len_more (passive_block g ds) 0 number number (omega arith))
