-- What walks through the terms in a term have found.
use Rattle.std.specs.Prelude.{◌≡◌, ℕ, ◌<◌, nat_eq, Bool, true, List, length, map, drop}
use Rattle.std.specs.List.{list_any, AllByRecursion}
use Rattle.logic_core.specs.Tree.{Tree}
use Rattle.logic_core.specs.Subterm.{has, outside}
use Rattle.logic_core.specs.Same.{same_term}
use Rattle.term_bank.specs.Numbered.{at}

-- whether a test picks a term of one of the numbers
abbrev pub picks_one : (Tree → Bool) → List Tree → List ℕ → Bool
picks_one p ts is = list_any (λ i. p (at ts i)) is

-- of each number that is found the terms in its term are found too
abbrev pub AreWhole : List Tree → List ℕ → Type 0
AreWhole ts is = (i : ℕ) → list_any (nat_eq i) is ≡ true → (i < length ts) × ((p : Tree → Bool) → has p (at ts i) ≡ true → picks_one p ts is ≡ true)

-- the terms in a term outside quantifiers, but for itself
abbrev pub inner : Tree → List Tree
inner t = drop 1 (outside t)

-- of each number that is done the terms in its term outside quantifiers are found
abbrev pub AreOutside : List Tree → List ℕ → List ℕ → Type 0
AreOutside ts done found = (i : ℕ) → list_any (nat_eq i) done ≡ true → (i < length ts) × AllByRecursion (λ t. list_any (same_term t) (map (at ts) found) ≡ true) (outside (at ts i))
