use Rattle.smoke_report.proofs.Batches.{fault_given}
use Rattle.smoke_report.proofs.report.add_next.Goals as goal

pub returns-in_err-add_lines-clause-fault : goal.returns-in_err-add_lines-clause-fault
returns-in_err-add_lines-clause-fault c =
    fault_given c.in_ok-count.count c.args.points.now c.split_at.result.0.now c.split_at.result.1.now c.split_at.ensures.front c.split_at.ensures.back c.args.module.now c.from_residual-in_err-add_lines.result
    c.in_err-add_lines.field-0.0 c.from_residual-in_err-add_lines.ensures.1 c.in_err-add_lines.ensures.fault
