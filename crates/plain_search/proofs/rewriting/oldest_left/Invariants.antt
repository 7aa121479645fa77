use Rattle.std.proofs.Common.{◌≡◌, drop}
use Rattle.tableau_branch.specs.Branch.{first_from}
use Rattle.logic_rules.specs.Rewriting.{left_in_another}
use Rattle.plain_search.proofs.rewriting.oldest_left.Given as goal

abbrev pub invariant-loop-at : goal.invariant-loop-at
invariant-loop-at l = first_from (left_in_another l.defs l.branch) l.at (drop l.at l.branch.facts) ≡ first_from (left_in_another l.defs l.branch) 0 l.branch.facts
