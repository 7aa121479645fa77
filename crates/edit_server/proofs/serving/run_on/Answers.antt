use Rattle.edit_server.proofs.ReadCommands.{read_size}
use Rattle.edit_server.proofs.TextModes.{shared_has_some, serves_unless}
use Rattle.edit_server.proofs.serving.run_on.Goals as goal

pub sum_up_shared-requires-clause-size : goal.sum_up_shared-requires-clause-size
sum_up_shared-requires-clause-size g c = read_size c.requires.command.0 c.args.command.now c.requires.command.1

pub serve_shared-requires-clause-serves : goal.serve_shared-requires-clause-serves
serve_shared-requires-clause-serves g c = serves_unless _ (shared_has_some c.args.command.now c.requires.workers).0 c.in_default.not-Gen

pub serve_shared-requires-clause-workers : goal.serve_shared-requires-clause-workers
serve_shared-requires-clause-workers g c = (shared_has_some c.args.command.now c.requires.workers).1

pub returns-in_default-clause-unread : goal.returns-in_default-clause-unread
returns-in_default-clause-unread g c gen = absurd (c.in_default.not-Gen gen)
