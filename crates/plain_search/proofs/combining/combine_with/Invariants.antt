use Rattle.std.proofs.Common.{◌≡◌, drop, map}
use Rattle.tableau_branch.specs.Branch.{first_attempt}
use Rattle.theory_rules.specs.Combining.{combine_pair}
use Rattle.plain_search.proofs.combining.combine_with.Given as goal

abbrev pub invariant-loop-d : goal.invariant-loop-d
invariant-loop-d l = first_attempt (combine_pair l.entries) (map (λ d. (d, l.e)) (drop l.d-index l.before)) ≡ first_attempt (combine_pair l.entries) (map (λ d. (d, l.e)) l.before)
