use Rattle.std.proofs.Common.{◌≡◌, drop}
use Rattle.bpl_dependencies.specs.Rounds.{leads_on}
use Rattle.bpl_dependencies.proofs.reach.leads_on.Given as goal

abbrev pub invariant-loop-edge : goal.invariant-loop-edge
invariant-loop-edge l = leads_on (drop l.edge-index l.edges) l.flags ≡ leads_on l.edges l.flags
