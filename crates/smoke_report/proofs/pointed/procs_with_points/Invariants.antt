use Rattle.std.proofs.Common.{◌≡◌, ◌++◌, drop, map}
use Rattle.smoke_report.specs.Pointed.{AreOf, pointed}
use Rattle.smoke_report.proofs.pointed.procs_with_points.Given as goal

-- the procedures so far, and then those of the points that are left, are all
abbrev pub invariant-loop-point : goal.invariant-loop-point
invariant-loop-point l = record {
  all : l.all.items ++ map (pointed l.procs) (drop l.point-index l.points) ≡ l.procs ++ map (pointed l.procs) l.points;
  of : AreOf l.procs (drop l.point-index l.points);
}
