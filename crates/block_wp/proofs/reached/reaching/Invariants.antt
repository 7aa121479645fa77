use Rattle.std.proofs.Common.{◌≡◌, ◌-◌, length}
use Rattle.block_wp.specs.Equations.{reaching_from, reaching}
use Rattle.block_wp.proofs.Tables.{IsNumberedFrom}
use Rattle.block_wp.proofs.reached.reaching.Given as goal

-- from the blocks that are left on come all
abbrev pub invariant-loop-i : goal.invariant-loop-i
invariant-loop-i l = record {
  left : reaching_from l.passive (l.last - l.i) l.reached.blocks ≡ reaching l.passive l.last;
  given : l.reached.given ≡ length l.defs;
  last : l.reached.last ≡ l.last;
  numbered : IsNumberedFrom (l.last - l.i) l.reached;
}
