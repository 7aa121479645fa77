use Rattle.std.proofs.Common.{ℕ, ◌<◌, get_or}
use Rattle.flow_core.specs.declared.block.Block.{Block}
use Rattle.flow_core.specs.Plain.{OwnsItsCalls}
use Rattle.flow_core.proofs.calls.calls_are_plain.Given as goal

abbrev pub invariant-loop-block : goal.invariant-loop-block
invariant-loop-block l = (k : ℕ) (d : Block) → k < l.block-index → OwnsItsCalls l.own (get_or l.blocks k d)
