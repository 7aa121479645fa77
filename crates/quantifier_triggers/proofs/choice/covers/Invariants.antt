use Rattle.std.proofs.Common.{◌≡◌, ◌<◌, ℕ, true, nat_eq}
use Rattle.std.specs.List.{list_any}
use Rattle.quantifier_triggers.proofs.choice.covers.Given as goal

abbrev pub invariant-loop-variable : goal.invariant-loop-variable
invariant-loop-variable l = (v : ℕ) → v < l.variable → list_any (nat_eq v) l.numbers ≡ true
