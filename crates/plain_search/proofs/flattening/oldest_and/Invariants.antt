use Rattle.std.proofs.Common.{◌≡◌, drop}
use Rattle.tableau_branch.specs.Branch.{first_from}
use Rattle.logic_rules.specs.Flattening.{as_all}
use Rattle.plain_search.proofs.flattening.oldest_and.Given as goal

abbrev pub invariant-loop-at : goal.invariant-loop-at
invariant-loop-at l = first_from as_all l.at (drop l.at l.branch.facts) ≡ first_from as_all 0 l.branch.facts
