use Rattle.check_report.proofs.Answered.{answered_starves}
use Rattle.check_report.proofs.summing.sum_up_on.Goals as goal

pub returns-in-Err-sum_verdicts-clause-memory : goal.returns-in-Err-sum_verdicts-clause-memory
returns-in-Err-sum_verdicts-clause-memory g c = answered_starves c.args.turns c.args.procs.now _ _ c.in-Ok.ensures.calls
