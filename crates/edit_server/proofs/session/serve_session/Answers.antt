use Rattle.edit_server.proofs.SessionEnds.{serves_so, within_so, usage_never, read_so, read_quiet_so, write_so, write_quiet_so, complete_so}
use Rattle.edit_server.proofs.session.serve_session.Goals as goal

pub returns-clause-served : goal.returns-clause-served
returns-clause-served g c = serves_so c.serve-ending.result.0 c.status_of.result c.status_of.ensures c.args.turns g.B.GoalBoard.workers _ _ _ _ _ c.serve-ending.ensures.serves

pub returns-clause-within : goal.returns-clause-within
returns-clause-within g c = within_so c.serve-ending.result.0 c.status_of.result c.status_of.ensures _ _ c.serve-ending.ensures.within

pub returns-clause-never_usage : goal.returns-clause-never_usage
returns-clause-never_usage g c = usage_never c.serve-ending.result.0 c.status_of.result c.status_of.ensures

pub returns-clause-read_fault : goal.returns-clause-read_fault
returns-clause-read_fault g c = read_so c.serve-ending.result.0 c.status_of.result c.status_of.ensures _ _ c.serve-ending.ensures.read

pub returns-clause-read_quiet : goal.returns-clause-read_quiet
returns-clause-read_quiet g c = read_quiet_so c.serve-ending.result.0 c.status_of.result c.status_of.ensures _ _ c.serve-ending.ensures.read_quiet

pub returns-clause-write_fault : goal.returns-clause-write_fault
returns-clause-write_fault g c = write_so c.serve-ending.result.0 c.status_of.result c.status_of.ensures _ _ c.serve-ending.ensures.write

pub returns-clause-write_quiet : goal.returns-clause-write_quiet
returns-clause-write_quiet g c = write_quiet_so c.serve-ending.result.0 c.status_of.result c.status_of.ensures _ _ c.serve-ending.ensures.write_quiet

pub returns-clause-complete : goal.returns-clause-complete
returns-clause-complete g c = complete_so c.serve-ending.result.0 c.status_of.result c.status_of.ensures c.args.turns g.B.GoalBoard.workers _ _ _ _ _ _ _ _ _ c.serve-ending.ensures.serves c.serve-ending.ensures.read c.serve-ending.ensures.write
