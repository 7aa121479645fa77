-- Where a number stands last in a list, and how that is kept.
use Rattle.std.specs.Prelude.{◌≡◌, ℕ, suc, ◌<◌, nat_eq, Bool, true, false, List, [], ◌∷◌, length, take, get_or, Option, Some, None}
use Rattle.std.specs.Map.{lookup}

-- the place one later, or the first where nothing stands later and the number stands there
abbrev pub or_first : Option ℕ → Bool → Option ℕ
or_first (Some i) here = Some (suc i)
or_first None true = Some 0
or_first None false = None

-- the last place at which the number stands
abbrev pub last_at : List ℕ → ℕ → Option ℕ
last_at [] n = None
last_at (m ∷ ms) n = or_first (last_at ms n) (nat_eq n m)

-- each number is kept with its last place, and each place with the last earlier one of its number
pub record IsIndexed (ns : List ℕ) (latest : List (ℕ × ℕ)) (earlier : List (Option ℕ)) : Type 0 where
  pub last : (n : ℕ) → lookup (nat_eq n) latest ≡ last_at ns n
  pub as_many : length earlier ≡ length ns
  pub before : (i : ℕ) → i < length ns → get_or earlier i None ≡ last_at (take i ns) (get_or ns i 0)
