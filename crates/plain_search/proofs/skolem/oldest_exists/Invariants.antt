use Rattle.std.proofs.Common.{◌≡◌, drop}
use Rattle.tableau_branch.specs.Branch.{first_from}
use Rattle.logic_rules.specs.Skolem.{as_exists}
use Rattle.plain_search.proofs.skolem.oldest_exists.Given as goal

abbrev pub invariant-loop-at : goal.invariant-loop-at
invariant-loop-at l = first_from as_exists l.at (drop l.at l.branch.facts) ≡ first_from as_exists 0 l.branch.facts
