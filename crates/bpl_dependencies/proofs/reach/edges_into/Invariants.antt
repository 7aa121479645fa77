use Rattle.std.proofs.Common.{◌≡◌, ◌++◌, drop}
use Rattle.bpl_dependencies.specs.Reach.{edges_seen}
use Rattle.bpl_dependencies.specs.Rounds.{edges_into}
use Rattle.bpl_dependencies.proofs.reach.edges_into.Given as goal

abbrev pub invariant-loop-next : goal.invariant-loop-next
invariant-loop-next l = l.flags.items ++ edges_into (edges_seen (drop l.next-index l.edges)) l.at ≡ edges_into (edges_seen l.edges) l.at
