use Rattle.std.proofs.Common.{◌≡◌, map, drop}
use Rattle.tableau_branch.specs.Branch.{first_from}
use Rattle.numbered_terms.specs.Stored.{Grows}
use Rattle.numbered_branches.specs.Branches.{fact_at}
use Rattle.numbered_instances.specs.Lefts.{left_among}
use Rattle.numbered_instances.proofs.lefts.listed_left.Given as goal

abbrev pub invariant-loop-at : goal.invariant-loop-at
invariant-loop-at l = record {
  grows : Grows l.fn.store l.store;
  rest : first_from (left_among l.fn.store l.facts) l.at (map (fact_at l.fn.store.terms) (drop l.at l.facts)) ≡ first_from (left_among l.fn.store l.facts) 0 (map (fact_at l.fn.store.terms) l.facts);
}
