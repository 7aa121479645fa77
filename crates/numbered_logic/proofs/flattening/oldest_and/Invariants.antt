use Rattle.std.proofs.Common.{◌≡◌, map, drop}
use Rattle.tableau_branch.specs.Branch.{first_from}
use Rattle.logic_rules.specs.Flattening.{as_all}
use Rattle.numbered_branches.specs.Branches.{fact_at}
use Rattle.numbered_logic.proofs.flattening.oldest_and.Given as goal

abbrev pub invariant-loop-at : goal.invariant-loop-at
invariant-loop-at l = first_from as_all l.at (map (fact_at l.terms) (drop l.at l.facts)) ≡ first_from as_all 0 (map (fact_at l.terms) l.facts)
