use Rattle.edit_session.proofs.Served.{any_workers_serve}
use Rattle.edit_session.proofs.line_laws.any_workers_serve.Goals as goal

pub returns : goal.returns
returns c = any_workers_serve c.sessions_of_any_workers.ensures
