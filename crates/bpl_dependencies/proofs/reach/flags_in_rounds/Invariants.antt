use Rattle.std.proofs.Common.{◌≡◌}
use Rattle.bpl_dependencies.specs.Reach.{edges_seen}
use Rattle.bpl_dependencies.specs.Rounds.{rounds_of}
use Rattle.bpl_dependencies.proofs.reach.flags_in_rounds.Given as goal

abbrev pub invariant-loop-k : goal.invariant-loop-k
invariant-loop-k l = l.flags.items ≡ rounds_of l.base (edges_seen l.edges) l.k
