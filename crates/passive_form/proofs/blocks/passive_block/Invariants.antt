use Rattle.std.proofs.Common.{◌≡◌, ◌++◌, take, slice_index_or}
use Rattle.std.specs.List.{flat_map}
use Rattle.flow_core.specs.Graph.{block_at}
use Rattle.passive_form.specs.Incarnations.{nothing_done, equations_for}
use Rattle.passive_form.proofs.blocks.passive_block.Given as goal

abbrev pub invariant-loop-successor : goal.invariant-loop-successor
invariant-loop-successor l = l.commands.items ≡ (slice_index_or l.done l.number nothing_done).commands ++ flat_map (λ c. equations_for (slice_index_or l.done l.number nothing_done) (slice_index_or l.done c nothing_done)) (take l.successor-index (block_at l.graph.blocks l.number).next)
