-- In how many facts of a branch an atom occurs, and facts in which it doesn't.
use Rattle.std.specs.Prelude.{◌≡◌, ℕ, false, List, map}
use Rattle.std.specs.List.{AllByRecursion}
use Rattle.logic_core.specs.Tree.{Tree}
use Rattle.logic_core.specs.Subterm.{occurs}
use Rattle.tableau_branch.specs.Branch.{Fact}
use Rattle.numbered_branches.specs.Branches.{NumberedFact}
use Rattle.numbered_instances.specs.Shared.{has_atom, facts_with}

-- how many of the facts have the atom of this number
abbrev pub having : List Tree → ℕ → List NumberedFact → ℕ
having ts j fs = facts_with (has_atom ts) j (map (λ (f : NumberedFact). f.term) fs)

-- the term occurs in none of the facts
abbrev pub AreWithout : Tree → List Fact → Type 0
AreWithout l fs = AllByRecursion (λ (f : Fact). occurs l f.term ≡ false) fs
