use Rattle.std.proofs.Common.{◌≡◌, ℕ, ◌<◌, false}
use Rattle.bpl_dependencies.specs.Reach.{edges_seen}
use Rattle.bpl_dependencies.specs.Rounds.{row}
use Rattle.bpl_dependencies.specs.Ranks.{rank_of, falls}
use Rattle.bpl_dependencies.proofs.ranks.never_fall.Given as goal

-- the rows so far
abbrev pub invariant-loop-i : goal.invariant-loop-i
invariant-loop-i l = (i : ℕ) → i < l.i → falls l.ranks (rank_of l.ranks i) (row (edges_seen l.edges) i) ≡ false
