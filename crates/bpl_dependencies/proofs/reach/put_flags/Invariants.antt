use Rattle.bpl_dependencies.specs.Reach.{edges_seen}
use Rattle.bpl_dependencies.specs.Rounds.{rounds_of, IsUnder}
use Rattle.bpl_dependencies.proofs.reach.put_flags.Given as goal

-- each flag so far is there after as many rounds
abbrev pub invariant-loop-i : goal.invariant-loop-i
invariant-loop-i l = IsUnder l.flags.items (rounds_of l.base (edges_seen l.edges) l.i)
