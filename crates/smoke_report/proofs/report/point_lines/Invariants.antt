use Rattle.std.proofs.Common.{◌≡◌, ◌++◌, length, map}
use Rattle.std.specs.Prelude.{filter}
use Rattle.smoke_report.specs.Unreached.{point_line}
use Rattle.smoke_report.specs.Pointed.{AreOf}
use Rattle.smoke_report.specs.Smoke.{is_unreachable, large_among}
use Rattle.smoke_report.proofs.report.point_lines.Given as goal

-- the lines so far, and then those of the points that are left, are all; up to here no limit is exceeded
abbrev pub invariant-loop-left : goal.invariant-loop-left
invariant-loop-left l = record {
  lines : map (λ v. v.items) l.lines.items ++ map point_line (filter (is_unreachable l.turns l.module) l.left) ≡ map point_line (filter (is_unreachable l.turns l.module) l.points);
  large : large_among l.module l.left ≡ large_among l.module l.points;
  of : AreOf l.module.procs l.left;
}

abbrev pub decreases-loop-left : goal.decreases-loop-left
decreases-loop-left l = length l.left
