use Rattle.std.proofs.Common.{◌≡◌, drop}
use Rattle.tableau_branch.specs.Branch.{first_from}
use Rattle.theory_rules.specs.Differ.{unequal_maps}
use Rattle.theory_rules.proofs.differ.oldest_unequal.Given as goal

abbrev pub invariant-loop-at : goal.invariant-loop-at
invariant-loop-at l = first_from (unequal_maps l.defs l.branch) l.at (drop l.at l.branch.facts) ≡ first_from (unequal_maps l.defs l.branch) 0 l.branch.facts
