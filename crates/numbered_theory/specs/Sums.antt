-- Terms by number as sums, and the facts that leave a number undecided.
use Rattle.std.specs.Prelude.{ℕ, List, map}
use Rattle.logic_core.specs.Tree.{Tree}
use Rattle.logic_core.specs.Sum.{Linear}
use Rattle.logic_core.specs.Combine.{sum_of}
use Rattle.term_bank.specs.Numbered.{at}
use Rattle.tableau_branch.specs.Branch.{Fact, At, places_from}
use Rattle.theory_rules.specs.Trichotomy.{at_most_forms, undecided_by}

abbrev pub sums_at : List Tree → List ℕ → List Linear
sums_at ts is = map (λ (i : ℕ). sum_of (at ts i)) is

abbrev pub undecided_places : List Fact → List (At Tree)
undecided_places fs = places_from (λ f. undecided_by (at_most_forms fs) f.term) 0 fs
