use Rattle.std.proofs.Common.{◌≡◌, drop}
use Rattle.tableau_branch.specs.Branch.{first_from}
use Rattle.theory_rules.specs.Condition.{first_choice}
use Rattle.theory_rules.proofs.condition.oldest_choice.Given as goal

abbrev pub invariant-loop-at : goal.invariant-loop-at
invariant-loop-at l = first_from first_choice l.at (drop l.at l.branch.facts) ≡ first_from first_choice 0 l.branch.facts
