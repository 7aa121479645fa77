use Rattle.std.proofs.Common.{◌≡◌, ◌++◌, drop}
use Rattle.smoke_report.specs.ProgramPoints.{points_from}
use Rattle.smoke_report.proofs.program_point.program_points.Given as goal

-- the points so far, and then those of the procedures that are left, are all
abbrev pub invariant-loop-p : goal.invariant-loop-p
invariant-loop-p l = l.found.items ++ points_from l.p (drop l.p l.module.procs) ≡ points_from 0 l.module.procs
