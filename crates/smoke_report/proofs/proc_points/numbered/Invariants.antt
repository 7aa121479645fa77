use Rattle.std.proofs.Common.{◌≡◌, ◌+◌, ◌++◌, drop}
use Rattle.smoke_report.specs.Points.{numbered}
use Rattle.smoke_report.proofs.proc_points.numbered.Given as goal

-- the points so far, and then those that are left, are all
abbrev pub invariant-loop-i : goal.invariant-loop-i
invariant-loop-i l = l.points.items ++ numbered (l.i + 1) (drop l.i l.spots) ≡ numbered 1 l.spots
