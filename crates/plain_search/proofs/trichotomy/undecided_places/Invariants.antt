use Rattle.std.proofs.Common.{◌≡◌, ◌++◌, drop}
use Rattle.tableau_branch.specs.Branch.{places_from}
use Rattle.theory_rules.specs.Trichotomy.{undecided}
use Rattle.plain_search.proofs.trichotomy.undecided_places.Given as goal

abbrev pub invariant-loop-at : goal.invariant-loop-at
invariant-loop-at l = l.places.items ++ places_from (undecided l.branch) l.at (drop l.at l.branch.facts) ≡ places_from (undecided l.branch) 0 l.branch.facts
