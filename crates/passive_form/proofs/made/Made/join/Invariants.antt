use Rattle.std.proofs.Common.{◌≡◌, ◌++◌, drop}
use Rattle.passive_form.specs.Incarnations.{havocked, new_at_join}
use Rattle.passive_form.proofs.made.Made.join.Given as goal

-- with the variables that are left comes what all make
abbrev pub invariant-loop-variable : goal.invariant-loop-variable
invariant-loop-variable l = record {
  made : havocked l.self (drop l.variable-index l.variables) ≡ havocked l.fn.self l.variables;
  joined : l.joined ++ new_at_join l.self (drop l.variable-index l.variables) ≡ new_at_join l.fn.self l.variables;
}
