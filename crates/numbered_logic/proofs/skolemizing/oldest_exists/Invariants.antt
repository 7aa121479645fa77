use Rattle.std.proofs.Common.{◌≡◌, map, drop}
use Rattle.tableau_branch.specs.Branch.{first_from}
use Rattle.logic_rules.specs.Skolem.{as_exists}
use Rattle.numbered_branches.specs.Branches.{fact_at}
use Rattle.numbered_logic.proofs.skolemizing.oldest_exists.Given as goal

abbrev pub invariant-loop-at : goal.invariant-loop-at
invariant-loop-at l = first_from as_exists l.at (map (fact_at l.terms) (drop l.at l.facts)) ≡ first_from as_exists 0 (map (fact_at l.terms) l.facts)
