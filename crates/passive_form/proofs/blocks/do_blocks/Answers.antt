use Rattle.std.proofs.Common.{◌<◌, ◌-◌, ◌+◌, ◌∷◌, [], ◌++◌, ◌∙◌, ap, sym, subst, length, get_or, arith}
use Rattle.std.specs.List.{range_with_len}
use Rattle.std.proofs.lemmas.List.{get_or_read}
use Rattle.std.proofs.lemmas.List.FromFn.{length-map-range_with_len, get_or-map-range_with_len}
use Rattle.passive_form.specs.Incarnations.{do_block, do_blocks, predecessors}
use Rattle.passive_form.proofs.Ranges.{range_first}
use Rattle.passive_form.proofs.blocks.do_blocks.Goals as goal

pub index-requires : goal.index-requires
index-requires c =
    let all = c.blocks-all.result.now in
    omega (arith, ap length c.in_ok-rows.ensures, length-map-range_with_len (predecessors all) 0 (length all), c.loop-number-test.true)

pub do_block-requires : goal.do_block-requires
do_block-requires c =
    let all = c.blocks-all.result.now in
    let rows = c.in_ok-rows.rows.items in
    let number = c.loop-number.number in
    let there : number < length rows = omega (arith, ap length c.in_ok-rows.ensures, length-map-range_with_len (predecessors all) 0 (length all), c.loop-number-test.true) in
    c.as_slice-entering.ensures
    ∙ get_or_read rows number c.index.result.now there c.index.ensures []
    ∙ ap (λ rs. get_or rs number []) c.in_ok-rows.ensures
    ∙ get_or-map-range_with_len (predecessors all) 0 (length all) number number [] c.loop-number-test.true (omega arith)
    ∙ ap (λ bs. predecessors bs number) c.blocks-all.ensures

pub loop-number-preserved : goal.loop-number-preserved
loop-number-preserved c =
    let g = c.args.graph.now in
    let first = c.as_slice-first.result.now in
    let before = c.loop-number.blocks.items in
    let number = c.loop-number.number in
    let r = do_block g first c.loop-number.sorts before number in
    let below : number < length g.blocks = subst (λ bs. number < length bs) c.blocks-all.ensures c.loop-number-test.true in
    let rest = range_with_len (number + 1) (length g.blocks - (number + 1)) in
    let sorts = rw c.deref.ensures.value at c.in_ok-more.ensures.sorts in
    let done = rw c.deref.ensures.value at c.in_ok-more.ensures.done in
    ap (λ s. do_blocks g first s c.push.new.self.items rest) sorts
    ∙ ap (λ bs. do_blocks g first r.0.sorts bs rest) (c.in_ok-push.ensures.items ∙ ap (λ d. before ++ d ∷ []) done)
    ∙ sym (ap (do_blocks g first c.loop-number.sorts before) (range_first number (length g.blocks) below))
    ∙ c.loop-number.invariant
