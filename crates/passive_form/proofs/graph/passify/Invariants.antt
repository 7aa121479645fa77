use Rattle.std.proofs.Common.{◌≡◌, map}
use Rattle.std.specs.List.{range_with_len}
use Rattle.passive_form.specs.Incarnations.{passive_block}
use Rattle.passive_form.proofs.graph.passify.Given as goal

abbrev pub invariant-loop-number : goal.invariant-loop-number
invariant-loop-number l = l.blocks.items ≡ map (passive_block l.graph l.done.blocks) (range_with_len 0 l.number)
