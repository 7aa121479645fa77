use Rattle.std.proofs.Common.{◌≡◌, ◌+◌, map, ℕ}
use Rattle.std.specs.List.{range_with_len}
use Rattle.bpl_blocks.proofs.graph.pairs.Given as goal

-- the pairs so far
abbrev pub invariant-loop-i : goal.invariant-loop-i
invariant-loop-i l = l.pairs.items ≡ map (λ (g : ℕ). (g, g + l.count)) (range_with_len l.first l.i)
