-- The atoms that occur in a term, by number.
use Rattle.std.specs.Prelude.{◌≡◌, ℕ, ◌<◌, nat_eq, Bool, true, false, ◌&&◌, ◌||◌, List, [], ◌∷◌, length}
use Rattle.std.specs.Bool.{⊤}
use Rattle.std.specs.List.{list_any, AllByRecursion}
use Rattle.logic_core.specs.Tree.{Tree, free, mul, read, write, choose, call}
use Rattle.logic_core.specs.Subterm.{occurs}
use Rattle.term_bank.specs.Numbered.{at}

-- what may be the left side of a fact whose parts have sorts
abbrev pub is_atom : Tree → Bool
is_atom (free v) = true
is_atom (mul x y) = true
is_atom (read m i) = true
is_atom (write m i x) = true
is_atom (choose c x y) = true
is_atom (call f ts) = true
is_atom t = false

-- no number stands there twice
abbrev pub AreOnce : List ℕ → Type 0
AreOnce [] = ⊤
AreOnce (i ∷ is) = (list_any (nat_eq i) is ≡ false) × AreOnce is

-- each number is lower than those behind it
abbrev pub IsRising : List ℕ → Type 0
IsRising [] = ⊤
IsRising (i ∷ is) = AllByRecursion (λ j. i < j) is × IsRising is

-- the numbers of two lists, rising
pub record AreBoth (is js both : List ℕ) : Type 0 where
  pub rising : IsRising both
  pub are : (k : ℕ) → list_any (nat_eq k) both ≡ (list_any (nat_eq k) is || list_any (nat_eq k) js)

-- the numbers of the atoms that occur in one of the terms of these numbers, which are below this one; they rise
pub record AreAtomsAmong (ts : List Tree) (below : ℕ) (of is : List ℕ) : Type 0 where
  pub within : AllByRecursion (λ j. j < below) is
  pub rising : IsRising is
  pub are : (j : ℕ) → j < length ts → list_any (nat_eq j) is ≡ (is_atom (at ts j) && list_any (λ i. occurs (at ts j) (at ts i)) of)

-- the numbers of the atoms that occur in the term of a number, inside quantifiers and triggers too, each once
pub record AreAtomsIn (ts : List Tree) (i : ℕ) (is : List ℕ) : Type 0 where
  pub within : AllByRecursion (λ j. j < length ts) is
  pub once : AreOnce is
  pub are : (j : ℕ) → j < length ts → list_any (nat_eq j) is ≡ (is_atom (at ts j) && occurs (at ts j) (at ts i))
