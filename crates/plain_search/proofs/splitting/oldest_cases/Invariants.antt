use Rattle.std.proofs.Common.{◌≡◌, drop}
use Rattle.tableau_branch.specs.Branch.{first_from}
use Rattle.logic_rules.specs.Splitting.{cases_of}
use Rattle.plain_search.proofs.splitting.oldest_cases.Given as goal

abbrev pub invariant-loop-at : goal.invariant-loop-at
invariant-loop-at l = first_from (cases_of l.defs l.branch) l.at (drop l.at l.branch.facts) ≡ first_from (cases_of l.defs l.branch) 0 l.branch.facts
