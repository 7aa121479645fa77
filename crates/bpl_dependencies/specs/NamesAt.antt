-- The names at positions of a table.
use Rattle.std.specs.Prelude.{ℕ, List, [], map, option_map, slice_get}
use Rattle.bpl_scopes.specs.Positions.{or_other}
use Rattle.bpl_scopes.specs.Scopes.{Text}
use Rattle.bpl_scopes.specs.declared.table.Entry.{Entry}

-- a position behind the last has the empty name
abbrev pub name_at : List Text → ℕ → Text
name_at ns i = or_other (slice_get ns i) []

abbrev pub names_at : List Text → List ℕ → List Text
names_at ns is = map (name_at ns) is

-- the name of the entry at a position
abbrev pub looked_name : List Entry → ℕ → Text
looked_name es i = or_other (option_map (λ e. e.name.now) (slice_get es i)) []
