use Rattle.std.proofs.Common.{◌≡◌, map, take}
use Rattle.block_wp.specs.Equations.{block_call}
use Rattle.block_wp.proofs.reached.Reached.block_calls.Given as goal

abbrev pub invariant-loop-block : goal.invariant-loop-block
invariant-loop-block l = l.calls.items ≡ map (block_call l.self.given l.self.blocks) (take l.block-index l.blocks)
