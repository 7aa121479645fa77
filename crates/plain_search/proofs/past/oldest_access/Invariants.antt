use Rattle.std.proofs.Common.{◌≡◌, drop}
use Rattle.tableau_branch.specs.Branch.{first_from}
use Rattle.theory_rules.specs.Past.{first_access}
use Rattle.plain_search.proofs.past.oldest_access.Given as goal

abbrev pub invariant-loop-at : goal.invariant-loop-at
invariant-loop-at l = first_from first_access l.at (drop l.at l.branch.facts) ≡ first_from first_access 0 l.branch.facts
