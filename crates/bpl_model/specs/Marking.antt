-- Positions that get marks, and those among the marks that are new.
use Rattle.std.specs.Prelude.{ℕ, zero, suc, ◌==◌, Bool, true, false, cond, List, [], ◌∷◌, ◌++◌, map, slice_index_or, slice_set}
use Rattle.std.specs.List.{list_any, flat_map, range_with_len}
use lib.ListN.{replicate}

pub record Marking : Type 0 where
  pub marks : List Bool
  pub fresh : List ℕ

-- the marks of so many positions, of which these have one
abbrev pub marks_of : ℕ → List ℕ → List Bool
marks_of count ks = map (λ d. list_any (λ k. d == k) ks) (range_with_len 0 count)

abbrev pub is_marked : List Bool → ℕ → Bool
is_marked ms d = slice_index_or ms d false

abbrev pub unmarked : ℕ → Marking
unmarked n = record { marks = replicate n false; fresh = [] }

-- a position that has a mark, or that isn't there, changes nothing
abbrev pub mark : Marking → ℕ → Marking
mark s d = cond (slice_index_or s.marks d true) s (record { marks = slice_set s.marks d true; fresh = s.fresh ++ d ∷ [] })

abbrev pub mark_all : Marking → List ℕ → Marking
mark_all s [] = s
mark_all s (d ∷ ds) = mark_all (mark s d) ds

-- nothing is new
abbrev pub settled : Marking → Marking
settled s = record s { fresh = [] }

-- what is new leads on
abbrev pub follow : (ℕ → List ℕ) → Marking → Marking
follow leads s = mark_all (settled s) (flat_map leads s.fresh)

-- round after round
abbrev pub follow_on : (ℕ → List ℕ) → ℕ → Marking → Marking
follow_on leads zero s = s
follow_on leads (suc n) s = follow_on leads n (follow leads s)
