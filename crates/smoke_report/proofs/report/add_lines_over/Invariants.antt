use Rattle.std.proofs.Common.{◌≡◌, ◌++◌, drop, map}
use Rattle.std.specs.Prelude.{filter}
use Rattle.smoke_report.specs.Unreached.{point_line}
use Rattle.smoke_report.specs.Smoke.{is_unreachable, large_among}
use Rattle.smoke_report.proofs.report.add_lines_over.Given as goal

-- the lines so far, and then those of the points that are left, are all; up to here no limit is exceeded
abbrev pub invariant-loop-at : goal.invariant-loop-at
invariant-loop-at l = record {
  lines : map (λ v. v.items) l.lines.items ++ map point_line (filter (is_unreachable l.turns l.module) (drop l.at l.points))
      ≡ map (λ v. v.items) l.fn.lines.items ++ map point_line (filter (is_unreachable l.turns l.module) l.points);
  large : large_among l.module (drop l.at l.points) ≡ large_among l.module l.points;
}
