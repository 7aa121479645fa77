-- The first facts of a search, by number.
use Rattle.std.specs.Prelude.{ℕ, ◌+◌, List, [], ◌∷◌}
use Rattle.numbered_branches.specs.Branches.{NumberedFact}

-- the terms as facts, with the numbers from this one on
abbrev pub facts_from : ℕ → List ℕ → List NumberedFact
facts_from n [] = []
facts_from n (i ∷ is) = record { term = i; number = n } ∷ facts_from (n + 1) is
