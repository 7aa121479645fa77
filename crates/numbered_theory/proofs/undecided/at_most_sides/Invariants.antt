use Rattle.std.proofs.Common.{◌≡◌, ◌<◌, ◌++◌, length, map, drop}
use Rattle.std.specs.List.{AllByRecursion}
use Rattle.numbered_branches.specs.Branches.{fact_at}
use Rattle.theory_rules.specs.Trichotomy.{at_most_forms}
use Rattle.numbered_theory.specs.Sums.{sums_at}
use Rattle.numbered_theory.proofs.undecided.at_most_sides.Given as goal

abbrev pub invariant-loop-fact : goal.invariant-loop-fact
invariant-loop-fact l = record {
  made : sums_at l.terms l.sides.items ++ at_most_forms (map (fact_at l.terms) (drop l.fact-index l.facts)) ≡ at_most_forms (map (fact_at l.terms) l.facts);
  within : AllByRecursion (λ i. i < length l.terms) l.sides.items;
}
