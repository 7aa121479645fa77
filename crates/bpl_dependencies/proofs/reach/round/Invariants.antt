use Rattle.std.proofs.Common.{◌≡◌, ◌++◌, drop}
use Rattle.bpl_dependencies.specs.Reach.{edges_seen}
use Rattle.bpl_dependencies.specs.Rounds.{round_of}
use Rattle.bpl_dependencies.proofs.reach.round.Given as goal

abbrev pub invariant-loop-flag : goal.invariant-loop-flag
invariant-loop-flag l = l.next.items ++ round_of (drop l.flag-index l.base) (edges_seen l.rest) l.flags ≡ round_of l.base (edges_seen l.edges) l.flags
