use Rattle.std.proofs.Common.{◌≡◌, [], drop, take}
use Rattle.tableau_branch.specs.Branch.{first_attempt}
use Rattle.theory_rules.specs.Combining.{combine_pair, pairs_from}
use Rattle.plain_search.proofs.combining.first_combined.Given as goal

abbrev pub invariant-loop-i : goal.invariant-loop-i
invariant-loop-i l = first_attempt (combine_pair l.entries) (pairs_from (take l.i l.entries) (drop l.i l.entries)) ≡ first_attempt (combine_pair l.entries) (pairs_from [] l.entries)
