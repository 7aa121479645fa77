use Rattle.std.proofs.Common.{◌≡◌, map, take}
use Rattle.tableau.specs.RunView.{verdict_of}
use Rattle.report_laws.specs.Scratch.{verdict_on}
use Rattle.check_report.proofs.verdicts.verdicts.Given as goal

abbrev pub invariant-loop-goal : goal.invariant-loop-goal
invariant-loop-goal l = map verdict_of l.found.items ≡ map (verdict_on l.fn.turns) (take l.goal-index l.goals)
