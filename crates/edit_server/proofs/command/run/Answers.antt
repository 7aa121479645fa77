use Rattle.std.proofs.Common.{◌≡◌, ◌⊎◌, map, string_bytes, inl, inr, refl}
use Rattle.edit_server.proofs.Runs.{nothing_runs}
use Rattle.edit_server.proofs.command.run.Goals as goal

pub run_command-requires-clause-command : goal.run_command-requires-clause-command
run_command-requires-clause-command g c = λ _ _. (map string_bytes c.args.words.now, c.in-Ok.ensures.read)

pub returns-in-Err-Memory-clause-ran : goal.returns-in-Err-Memory-clause-ran
returns-in-Err-Memory-clause-ran g c command found = nothing_runs c.nothing_is_served.ensures command _
