-- What is kept of numbers, each at the place of its number.
use Rattle.std.specs.Prelude.{◌≡◌, ℕ, nat_eq, cond, Option, Some, None, List, get_or}

module _ {A : Type 0} where
  -- what is kept of a number
  abbrev pub kept_at : List (Option A) → ℕ → Option A
  kept_at slots n = get_or slots n None

  -- of each number the same is kept
  abbrev pub AreAlike : List (Option A) → List (Option A) → Type 0
  AreAlike old new = (n : ℕ) → kept_at new n ≡ kept_at old n

  -- and this of one
  abbrev pub IsPut : List (Option A) → ℕ → A → List (Option A) → Type 0
  IsPut old i a new = (n : ℕ) → kept_at new n ≡ cond (nat_eq n i) (Some a) (kept_at old n)

  -- what is kept of each number is right
  abbrev pub AreKept : (ℕ → A → Type 0) → List (Option A) → Type 0
  AreKept Right slots = (i : ℕ) (a : A) → kept_at slots i ≡ Some a → Right i a
