-- Flags of the numbers that are in a set.
use Rattle.std.specs.Prelude.{◌≡◌, ℕ, nat_eq, Bool, false, List, get_or}
use Rattle.std.specs.List.{list_any}

-- none beyond the last flag
abbrev pub AreFlags : List ℕ → List Bool → Type 0
AreFlags is bs = (i : ℕ) → get_or bs i false ≡ list_any (nat_eq i) is
