use Rattle.std.proofs.Common.{take}
use Rattle.flow_core.specs.Graph.{block_at}
use Rattle.passive_form.proofs.Rows.{AreNoted}
use Rattle.passive_form.proofs.predecessors.note_edges.Given as goal

abbrev pub invariant-loop-block : goal.invariant-loop-block
invariant-loop-block l = AreNoted l.blocks l.number (take l.block-index (block_at l.blocks l.number).next) l.rows
