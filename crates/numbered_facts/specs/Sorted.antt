-- Sorts of maps.
use Rattle.std.specs.Prelude.{Bool, true, false, Option, Some}
use Rattle.logic_core.specs.Tree.{Kind, map}

abbrev pub is_map : Option Kind → Bool
is_map (Some (map k)) = true
is_map k = false
