-- The numbers of the definitions of blocks, in a table from the last block's downwards.
use Rattle.std.specs.Prelude.{◌≡◌, ℕ, ◌+◌, ◌-◌, ◌<◌, nat_eq, nat_lt, Bool, cond, List, [], ◌∷◌, ◌++◌, position, slice_index_or, option_map, Option, Some, None}
use Rattle.std.specs.List.{AllByRecursion}
use Rattle.passive_form.specs.declared.passive.Passive.{Passive}
use Rattle.block_wp.specs.Equations.{reaching}
use Rattle.block_wp.specs.declared.reached.Reached.{Reached}

-- each number is above those after it
abbrev pub Falling : List ℕ → Type 0
Falling [] = Unit {0}
Falling (x ∷ xs) = AllByRecursion (λ y. y < x) xs × Falling xs

-- what the table has for the block
abbrev pub number_in : Reached → ℕ → Option ℕ
number_in r b = cond (nat_lt r.last b) None (slice_index_or r.table (r.last - b) None)

-- the next lower block comes into the table, and where it joins them, among the blocks
abbrev pub with_lower : Reached → ℕ → Bool → ℕ → Reached
with_lower r b joins number = record r { blocks = cond joins (r.blocks ++ b ∷ []) r.blocks; table = r.table ++ cond joins (Some number) None ∷ [] }

-- the blocks fall, and the table has the place of each, counted from the given definitions on
pub record IsNumbered (r : Reached) : Type 0 where
  pub falling : Falling r.blocks
  pub numbers : (b : ℕ) → number_in r b ≡ option_map (λ p. r.given + p) (position (nat_eq b) r.blocks)

-- the blocks are those from which block k is reached, and so many definitions come before theirs
pub record IsReached (g : Passive) (count k : ℕ) (r : Reached) : Type 0 where
  pub blocks : r.blocks ≡ reaching g k
  pub given : r.given ≡ count
  pub last : r.last ≡ k
  pub numbered : IsNumbered r
