-- A table of where numbers stand in a list.
use Rattle.std.specs.Prelude.{◌≡◌, ℕ, nat_eq, Option, None, List, slice_index_or}
use Rattle.std.specs.List.{position_from}

-- the entry of each number is its place; beyond the table no number stands in the list
abbrev pub HasPlaces : List (Option ℕ) → List ℕ → Type 0
HasPlaces places numbers = (v : ℕ) → slice_index_or places v None ≡ position_from (nat_eq v) 0 numbers
