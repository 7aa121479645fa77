use Rattle.std.proofs.Common.{◌≡◌, drop}
use Rattle.bpl_dependencies.specs.Ranks.{falls}
use Rattle.bpl_dependencies.proofs.ranks.falls.Given as goal

abbrev pub invariant-loop-edge : goal.invariant-loop-edge
invariant-loop-edge l = falls l.ranks l.rank (drop l.edge-index l.edges) ≡ falls l.ranks l.rank l.edges
