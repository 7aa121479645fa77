use Rattle.std.proofs.Common.{◌≡◌, drop}
use Rattle.quantifier_triggers.specs.Choice.{any_new}
use Rattle.quantifier_triggers.proofs.choice.adds.Given as goal

abbrev pub invariant-loop-number : goal.invariant-loop-number
invariant-loop-number l =
    any_new l.variables l.covered (drop l.number-index l.numbers) ≡ any_new l.variables l.covered l.numbers
