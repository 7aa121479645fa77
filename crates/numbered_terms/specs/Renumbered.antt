-- The numbers that a walk has found for numbers.
use Rattle.std.specs.Prelude.{◌≡◌, ℕ, ◌<◌, nat_eq, true, List, length, Some, unwrap_or, is_some}
use Rattle.std.specs.Map.{lookup}
use Rattle.logic_core.specs.Tree.{Tree}
use Rattle.term_bank.specs.Numbered.{at}

-- the number itself where none is found
abbrev pub new_of : List (ℕ × ℕ) → ℕ → ℕ
new_of found i = unwrap_or (lookup (nat_eq i) found) i

-- what a walk makes of terms
module _ (becomes : Tree → Tree) where
  -- for a number that of what its term becomes is found
  abbrev pub IsFound : List Tree → List (ℕ × ℕ) → ℕ → Type 0
  IsFound ts found i = (i < length ts) × ((new_of found i < length ts) × (at ts (new_of found i) ≡ becomes (at ts i)))

  -- whatever is found is right
  abbrev pub AreFound : List Tree → List (ℕ × ℕ) → Type 0
  AreFound ts found = (i j : ℕ) → lookup (nat_eq i) found ≡ Some j → (i < length ts) × ((j < length ts) × (at ts j ≡ becomes (at ts i)))

-- nothing that was found is lost
abbrev pub Covers : List (ℕ × ℕ) → List (ℕ × ℕ) → Type 0
Covers found found' = (i : ℕ) → is_some (lookup (nat_eq i) found) ≡ true → is_some (lookup (nat_eq i) found') ≡ true
