-- Rounds over entries with flags and edges.
use Rattle.std.specs.Prelude.{◌≡◌, ℕ, zero, suc, ◌==◌, Bool, true, false, cond, ◌||◌, List, [], ◌∷◌, map, length, slice_get, slice_set}
use Rattle.std.specs.List.{list_any}
use Rattle.bpl_scopes.specs.Positions.{or_other}

-- whether the entry at a position has the flag; behind the last none has
abbrev pub flag_of : List Bool → ℕ → Bool
flag_of fs i = or_other (slice_get fs i) false

-- each entry that has the first flag has the second too
abbrev pub IsUnder : List Bool → List Bool → Type 0
IsUnder fs gs = (i : ℕ) → flag_of fs i ≡ true → flag_of gs i ≡ true

-- the edges of the entry at a position
abbrev pub row : List (List ℕ) → ℕ → List ℕ
row es i = or_other (slice_get es i) []

-- an edge leads to an entry that has the flag
abbrev pub leads_on : List ℕ → List Bool → Bool
leads_on es fs = list_any (flag_of fs) es

-- an entry has the flag after a round where it always has it, or an edge leads to one that has it before
abbrev pub round_of : List Bool → List (List ℕ) → List Bool → List Bool
round_of [] es fs = []
round_of (b ∷ bs) [] fs = []
round_of (b ∷ bs) (e ∷ es) fs = (b || leads_on e fs) ∷ round_of bs es fs

-- the flags after so many rounds, from none on
abbrev pub rounds_of : List Bool → List (List ℕ) → ℕ → List Bool
rounds_of bs es zero = []
rounds_of bs es (suc k) = round_of bs es (rounds_of bs es k)

-- the entry at a position takes the flag that a round gives it
abbrev pub put_flag : List Bool → List (List ℕ) → List Bool → ℕ → List Bool
put_flag bs es fs p = cond (flag_of (round_of bs es fs) p) (slice_set fs p true) fs

unfoldable pub has_edge : ℕ → List ℕ → Bool
has_edge at is = list_any (λ i. i == at) is

-- which entries have an edge to that one
abbrev pub edges_into : List (List ℕ) → ℕ → List Bool
edges_into es at = map (has_edge at) es

-- edges lead from an entry back to it
abbrev pub comes_back : List (List ℕ) → ℕ → Bool
comes_back es at = flag_of (rounds_of (edges_into es at) es (length (edges_into es at))) at
