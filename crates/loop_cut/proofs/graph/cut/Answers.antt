use Rattle.std.proofs.Common.{◌≡◌, ap, sym, subst, ◌∙◌}
use Rattle.flow_core.specs.Graph.{KeepsEntryValues}
use Rattle.flow_core.specs.Plain.{IsRising}
use Rattle.loop_cut.specs.Cut.{cut_from}
use Rattle.loop_cut.proofs.CutBlocks.{cut_rises}
use Rattle.loop_cut.proofs.EntryValues.{entry_values_stay_at}
use Rattle.loop_cut.proofs.graph.cut.Goals as goal

blocks_are : (c : goal.After-own) → c.in_ok-blocks.blocks ≡ cut_from c.args.graph.now.blocks 0 c.args.graph.now.blocks
blocks_are c = c.in_ok-blocks.ensures ∙ ap (λ bs. cut_from bs 0 bs) c.blocks-2.ensures

stay : (c : goal.After-own) → KeepsEntryValues c.in_ok-blocks.blocks c.of-olds.result
stay c = entry_values_stay_at c.args.graph.now c.in_ok-blocks.blocks c.of-olds.result c.olds.ensures.never_set (blocks_are c) (c.of-olds.ensures ∙ (c.in_ok-from_slice.ensures.items ∙ c.olds.ensures.pairs))

pub new-requires-clause-paired_once : goal.new-requires-clause-paired_once
new-requires-clause-paired_once c = (stay c).paired_once

pub new-requires-clause-never_set : goal.new-requires-clause-never_set
new-requires-clause-never_set c = (stay c).never_set

pub new-requires-clause-never_target : goal.new-requires-clause-never_target
new-requires-clause-never_target c = (stay c).never_target

pub returns-clause-rising : goal.returns-clause-rising
returns-clause-rising c =
    let blocks : c.new.result.blocks ≡ cut_from c.args.graph.now.blocks 0 c.args.graph.now.blocks =
    ap (λ g. g.blocks) c.new.ensures ∙ (c.in_ok-blocks.ensures ∙ ap (λ bs. cut_from bs 0 bs) c.blocks-2.ensures) in
    subst IsRising (sym blocks) (cut_rises c.args.graph.now)
