use Rattle.std.proofs.Common.{◌≡◌, drop}
use Rattle.passive_form.specs.Incarnations.{perform_all}
use Rattle.passive_form.proofs.made.Made.perform_all.Given as goal

-- with the commands that are left comes what all make
abbrev pub invariant-loop-command : goal.invariant-loop-command
invariant-loop-command l = perform_all l.self (drop l.command-index l.commands) ≡ perform_all l.fn.self l.commands
