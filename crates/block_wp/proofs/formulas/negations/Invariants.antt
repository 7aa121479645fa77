use Rattle.std.proofs.Common.{◌≡◌, take}
use Rattle.passive_form.specs.Passive.{formulas}
use Rattle.block_wp.specs.Equations.{negations}
use Rattle.block_wp.proofs.formulas.negations.Given as goal

abbrev pub invariant-loop-command : goal.invariant-loop-command
invariant-loop-command l = l.all.items ≡ negations (formulas (take l.command-index l.commands))
