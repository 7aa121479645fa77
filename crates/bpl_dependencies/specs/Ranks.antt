-- Ranks of entries that never fall along an edge.
use Rattle.std.specs.Prelude.{◌≡◌, ℕ, Bool, false, List, nat_lt, slice_get}
use Rattle.std.specs.List.{list_any}
use Rattle.bpl_scopes.specs.Positions.{or_other}
use Rattle.bpl_dependencies.specs.Rounds.{row}

-- the rank of the entry at a position; behind the last it is 0
abbrev pub rank_of : List ℕ → ℕ → ℕ
rank_of rs i = or_other (slice_get rs i) 0

-- some edge leads below a rank
abbrev pub falls : List ℕ → ℕ → List ℕ → Bool
falls rs r es = list_any (λ i. nat_lt (rank_of rs i) r) es

-- no edge leads below the rank of its entry
abbrev pub NeverFall : List ℕ → List (List ℕ) → Type 0
NeverFall rs es = (i : ℕ) → falls rs (rank_of rs i) (row es i) ≡ false
