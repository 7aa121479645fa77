use Rattle.std.proofs.Common.{◌≡◌, ◌++◌, [], drop}
use Rattle.proof_core.specs.Context.{new_variables, variables_from}
use Rattle.plain_search.proofs.skolem.new_variables.Given as goal

-- the variables so far, and then those of the sorts ahead
abbrev pub invariant-loop-sort : goal.invariant-loop-sort
invariant-loop-sort l = l.variables.items ++ variables_from l.number (drop l._sort-index l.sorts) ≡ new_variables (record { vars = l.vars; facts = [] }) l.sorts
