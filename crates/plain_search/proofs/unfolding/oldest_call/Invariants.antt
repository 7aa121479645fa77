use Rattle.std.proofs.Common.{◌≡◌, drop}
use Rattle.tableau_branch.specs.Branch.{first_from}
use Rattle.logic_rules.specs.Unfolding.{first_call}
use Rattle.plain_search.proofs.unfolding.oldest_call.Given as goal

abbrev pub invariant-loop-at : goal.invariant-loop-at
invariant-loop-at l = first_from first_call l.at (drop l.at l.branch.facts) ≡ first_from first_call 0 l.branch.facts
