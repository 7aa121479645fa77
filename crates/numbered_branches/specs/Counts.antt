-- Numbers each once.
use Rattle.std.specs.Prelude.{ℕ, nat_eq, cond, List, [], ◌∷◌, ◌++◌}
use Rattle.std.specs.List.{list_any}

-- the numbers, each once, behind those that are there
abbrev pub once : List ℕ → List ℕ → List ℕ
once seen [] = seen
once seen (i ∷ is) = once (cond (list_any (nat_eq i) seen) seen (seen ++ i ∷ [])) is
