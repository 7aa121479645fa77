use Rattle.std.proofs.Common.{◌≡◌, drop}
use Rattle.passive_form.specs.Incarnations.{havocked}
use Rattle.passive_form.proofs.made.Made.havocked.Given as goal

-- with the variables that are left comes what all make
abbrev pub invariant-loop-variable : goal.invariant-loop-variable
invariant-loop-variable l = havocked l.self (drop l.variable-index l.variables) ≡ havocked l.fn.self l.variables
