use Rattle.edit_server.proofs.Runs.{nothing_runs}
use Rattle.edit_server.proofs.running.run_shared.Goals as goal

pub returns-in-Err-clause-ran : goal.returns-in-Err-clause-ran
returns-in-Err-clause-ran g c = nothing_runs c.nothing_is_served.ensures c.args.command.now _
