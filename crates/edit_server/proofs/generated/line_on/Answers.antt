use Rattle.goal_board.proofs.ByItself.{on_any_err}
use Rattle.check_report.proofs.Answered.{answered_starves}
use Rattle.edit_server.proofs.generated.line_on.Goals as goal

pub returns-in-Ok-clause-memory : goal.returns-in-Ok-clause-memory
returns-in-Ok-clause-memory g c = on_any_err c.line.result (answered_starves c.args.turns c.args.procs.now _ _ c.in-Ok.ensures.calls)
