-- Numbers for what definitions give of terms.
use Rattle.std.specs.Prelude.{◌≡◌, ℕ, ◌<◌, Option, Some, None, List, length, map}
use Rattle.std.specs.List.{AllByRecursion}
use Rattle.logic_core.specs.Tree.{Tree}
use Rattle.term_bank.specs.Numbered.{at}

module _ (ts : List Tree) where
  -- a number for what is there, and none where nothing is
  abbrev pub StandsFor : Option ℕ → Option Tree → Type 0
  StandsFor None o = o ≡ None
  StandsFor (Some i) o = (i < length ts) × (o ≡ Some (at ts i))

  -- the numbers are those of these terms
  abbrev pub AreAt : List ℕ → List Tree → Type 0
  AreAt is us = AllByRecursion (λ i. i < length ts) is × (map (at ts) is ≡ us)
