use Rattle.std.proofs.Common.{◌≡◌, ◌++◌, drop}
use Rattle.vc_build.specs.Goals.{goals_in}
use Rattle.vc_build.proofs.graph.add_commands.Given as goal

-- the goals so far, and then those of the commands that are left, are those of all
abbrev pub invariant-loop-at : goal.invariant-loop-at
invariant-loop-at l = l.tally ++ goals_in l.passive l.defs l.axioms l.block l.at (drop l.at l.commands) ≡ l.fn.tally ++ goals_in l.passive l.defs l.axioms l.block 0 l.commands
