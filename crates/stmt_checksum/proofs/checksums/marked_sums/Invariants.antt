use Rattle.std.proofs.Common.{◌≡◌, map, take}
use Rattle.stmt_checksum.specs.Chain.{goal_sum}
use Rattle.stmt_checksum.proofs.checksums.marked_sums.Given as goal

abbrev pub invariant-loop-mark : goal.invariant-loop-mark
invariant-loop-mark l = l.sums.items ≡ map (goal_sum l.chain) (take l.mark-index l.marks)
