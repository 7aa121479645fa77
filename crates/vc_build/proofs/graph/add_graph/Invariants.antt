use Rattle.std.proofs.Common.{◌≡◌, ◌++◌}
use Rattle.vc_build.specs.Goals.{goals_of_graph}
use Rattle.vc_build.proofs.GoalsInOrder.{goals_from}
use Rattle.vc_build.proofs.graph.add_graph.Given as goal

-- the goals so far, and then those of the blocks that are left, are those of all
abbrev pub invariant-loop-block : goal.invariant-loop-block
invariant-loop-block l = l.tally ++ goals_from l.passive l.defs l.axioms l.block ≡ l.fn.tally ++ goals_of_graph l.passive l.defs l.axioms
