use Rattle.std.proofs.Common.{◌≡◌, ℕ, ◌<◌, List, [], ◌==◌, length, take, get_or, ◌∙◌, ap, sym, subst, arith, ◌+◌}
use Rattle.std.specs.List.{list_any}
use Rattle.std.proofs.lemmas.List.{get_or_default, take_all}
use Rattle.flow_core.specs.declared.block.Block.{Block}
use Rattle.flow_core.specs.Graph.{block_at}
use Rattle.passive_form.specs.Incarnations.{predecessors_below}
use Rattle.passive_form.proofs.Rows.{AreNoted, none_noted, all_noted, noted_there, noted_outside, are_below}
use Rattle.passive_form.proofs.predecessors.note_edges.Goals as goal
use Rattle.passive_form.proofs.predecessors.note_edges.Goals.{then-place-rows+in_ok-note, else-place-rows}

next_of : (blocks : List Block) (p : ℕ) (k : Block) (items : List ℕ) → p < length blocks → items ≡ (get_or blocks p k).next → items ≡ (block_at blocks p).next
next_of blocks p k items there e = e ∙ ap (λ (b : Block). b.next) (get_or_default blocks p k (block_at [] p) there)

pub loop-block-init : goal.loop-block-init
loop-block-init c = none_noted c.args.blocks.now c.args.number c.args.rows.now c.requires.below

pub loop-block-preserved : goal.loop-block-preserved
loop-block-preserved c =
    let blocks = c.args.blocks.now in
    let p = c.args.number in
    let next = (block_at blocks p).next in
    let items = c.as_slice-block-items.result.now in
    let i = c.loop-block.block-index in
    let block = get_or items i 0 in
    let rows = c.loop-block.rows in
    let so_far = c.loop-block.invariant in
    let same : items ≡ next = next_of blocks p c.index-blocks-number.result items c.requires.there c.as_slice-block-items.ensures in
    let inside : i < length next = subst (λ xs. i < length xs) same c.loop-block-test.true in
    let here : block ≡ get_or next i block = ap (λ xs. get_or xs i 0) same ∙ get_or_default next i 0 block inside in
    elim c.if-place-rows.branch [
      | then-place-rows+in_ok-note w ↦
          let there = w.if-place-rows.true in
          let row = w.in_ok-note.ensures (predecessors_below blocks p block) (list_any (λ d. d == block) (take i next)) (are_below blocks p block) (get_or_default rows block w.index-rows-place.result [] there ∙ so_far.each block (omega (arith, there, so_far.all))) in
          subst (AreNoted blocks p (take (i + 1) next)) (sym w.rows-is) (noted_there blocks p next i block rows w.note.new.row inside here there so_far row)
      | else-place-rows w ↦ subst (AreNoted blocks p (take (i + 1) next)) (sym w.rows-is) (noted_outside blocks p next i block rows inside here w.if-place-rows.false so_far)
    ]

pub returns : goal.returns
returns c =
    let blocks = c.args.blocks.now in
    let p = c.args.number in
    let next = (block_at blocks p).next in
    let i = c.loop-block.block-index in
    let same = next_of blocks p c.index-blocks-number.result c.as_slice-block-items.result.now c.requires.there c.as_slice-block-items.ensures in
    let whole : take i next ≡ next = take_all i next (omega (arith, ap length same, c.loop-block-test.false)) in
    all_noted blocks p c.loop-block.rows (subst (λ xs. AreNoted blocks p xs c.loop-block.rows) whole c.loop-block.invariant)
