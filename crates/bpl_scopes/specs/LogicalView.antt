-- Which functions are logical, kept beside the entries of the table.
use Rattle.std.specs.Prelude.{Bool, List, map}
use Rattle.bpl_scopes.specs.Scopes.{Entry, Table}
use Rattle.bpl_scopes.specs.Functions.{is_logical}

abbrev pub logical_at : Table → List Bool
logical_at t = map (λ (e : Entry). is_logical t e.name) t
