use Rattle.std.proofs.Common.{◌≡◌, ◌++◌, length, map, drop}
use Rattle.std.specs.List.{AllByRecursion}
use Rattle.tableau_branch.specs.Branch.{Fact, places_from}
use Rattle.numbered_branches.specs.Branches.{fact_at}
use Rattle.theory_rules.specs.Trichotomy.{at_most_forms, undecided_by}
use Rattle.numbered_theory.specs.Places.{place_at, IsPlaceBelow}
use Rattle.numbered_theory.specs.Sums.{undecided_places}
use Rattle.numbered_theory.proofs.undecided.undecided_places.Given as goal

abbrev pub invariant-loop-at : goal.invariant-loop-at
invariant-loop-at l = record {
  made : map (place_at l.terms) l.places.items ++ places_from (λ (f : Fact). undecided_by (at_most_forms (map (fact_at l.terms) l.facts)) f.term) l.at (map (fact_at l.terms) (drop l.at l.facts)) ≡ undecided_places (map (fact_at l.terms) l.facts);
  within : AllByRecursion (IsPlaceBelow (length l.terms)) l.places.items;
}
