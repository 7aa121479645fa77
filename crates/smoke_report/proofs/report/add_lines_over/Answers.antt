use Rattle.std.proofs.Common.{rules}
use Rattle.smoke_report.specs.Unreached.{point_line}
use Rattle.smoke_report.specs.Smoke.{is_unreachable}
use Rattle.smoke_report.proofs.Batches.{lines_after, large_after, fault_at}
use Rattle.smoke_report.proofs.report.add_lines_over.Goals as goal

pub loop-at-preserved : goal.loop-at-preserved
loop-at-preserved c =
    let m = c.args.module.now in
    let points = c.args.points.now in record {
      lines = lines_after points c.loop-at.at c.index-points-at.result (search rules) (search rules) point_line (is_unreachable c.args.turns m) _ _ _ c.in_ok-add_line.ensures.added c.loop-at.invariant.lines;
      large = large_after points c.loop-at.at c.index-points-at.result (search rules) (search rules) m _ c.loop-at.invariant.large c.in_ok-add_line.ensures.within;
    }

pub returns-in_err-add_line-clause-fault : goal.returns-in_err-add_line-clause-fault
returns-in_err-add_line-clause-fault c =
    fault_at c.args.points.now c.loop-at.at c.index-points-at.result (search rules) (search rules) c.args.module.now _ c.loop-at.invariant.large c.from_residual.result c.in_err-add_line.field-0.0
    c.from_residual.ensures.1 c.in_err-add_line.ensures.fault
