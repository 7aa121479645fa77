use Rattle.std.proofs.Common.{◌≡◌, map, length, drop}
use Rattle.std.specs.List.{range_with_len}
use Rattle.passive_form.proofs.FirstWritten.{by_pairs}
use Rattle.passive_form.proofs.blocks.first_incarnations.Given as goal

-- by the pairs from the i-th on
abbrev pub invariant-loop-i : goal.invariant-loop-i
invariant-loop-i l = l.numbers ≡ map (by_pairs (drop l.i l.olds)) (range_with_len 0 (length l.vars))
