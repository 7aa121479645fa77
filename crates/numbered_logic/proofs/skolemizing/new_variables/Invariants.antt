use Rattle.std.proofs.Common.{◌≡◌, ◌<◌, ◌++◌, [], drop, map, length}
use Rattle.std.specs.List.{AllByRecursion}
use Rattle.proof_core.specs.Context.{new_variables, variables_from}
use Rattle.term_bank.specs.Numbered.{at}
use Rattle.numbered_terms.specs.Stored.{Grows}
use Rattle.numbered_logic.proofs.skolemizing.new_variables.Given as goal

-- the variables so far, and then those of the sorts ahead
abbrev pub invariant-loop-sort : goal.invariant-loop-sort
invariant-loop-sort l = record {
  grows : Grows l.fn.store l.store;
  low : AllByRecursion (λ i. i < length l.store.terms) l.variables.items;
  ahead : map (at l.store.terms) l.variables.items ++ variables_from l.number (drop l._sort-index l.sorts) ≡ new_variables (record { vars = l.vars; facts = [] }) l.sorts;
}
