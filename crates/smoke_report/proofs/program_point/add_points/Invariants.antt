use Rattle.std.proofs.Common.{◌≡◌, ◌+◌, ◌++◌, drop}
use Rattle.smoke_report.specs.ProgramPoints.{points_on}
use Rattle.smoke_report.proofs.program_point.add_points.Given as goal

-- the points so far, and then those that are left, are all
abbrev pub invariant-loop-i : goal.invariant-loop-i
invariant-loop-i l = l.found.items ++ points_on l.p l.proc.name (l.i + 1) (drop l.i l.points.items) ≡ l.fn.found.items ++ points_on l.p l.proc.name 1 l.points.items
