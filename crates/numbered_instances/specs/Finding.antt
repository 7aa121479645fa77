-- What numbers found for a quantifier's variables stand for.
use Rattle.std.specs.Prelude.{ℕ, ◌<◌, Option, Some, None, option_map, List, [], ◌∷◌, map}
use Rattle.std.specs.Bool.{⊤}
use Rattle.std.specs.List.{AllByRecursion}
use Rattle.logic_core.specs.Tree.{Tree}
use Rattle.logic_core.specs.Wide.{◌>>=◌}
use Rattle.term_bank.specs.Numbered.{at}
use Rattle.quantifier_triggers.specs.Match.{Found}

abbrev pub found_at : List Tree → List (Option ℕ) → Found
found_at ts b = map (option_map (at ts)) b

-- all of them are numbers of terms
abbrev pub IsSomeBelow : ℕ → Option ℕ → Type 0
IsSomeBelow size None = ⊤
IsSomeBelow size (Some i) = i < size

abbrev pub IsFoundBelow : ℕ → List (Option ℕ) → Type 0
IsFoundBelow size b = AllByRecursion (IsSomeBelow size) b

-- a number was found for each variable
abbrev pub each_number : List (Option ℕ) → Option (List ℕ)
each_number [] = Some []
each_number (o ∷ b) = o >>= λ i. option_map (λ is. i ∷ is) (each_number b)
