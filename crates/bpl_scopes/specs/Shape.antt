-- Sorts as how many maps stand around the integers or the truth values.
use Rattle.std.specs.Prelude.{ℕ, zero, suc, Bool, true, false, Option, option_map}
use Rattle.logic_terms.specs.Tree.{Kind, int, boolean, map}
use Rattle.bpl_scopes.specs.declared.shape.Base.{Base}
use Rattle.bpl_scopes.specs.declared.shape.Base.TheVariants.{Int, Bool as Truth}
use Rattle.bpl_scopes.specs.declared.shape.Shape.{Shape}

abbrev pub nested : ℕ → Kind → Kind
nested zero k = k
nested (suc n) k = map (nested n k)

abbrev pub base_of : Base → Kind
base_of Int = int
base_of Truth = boolean

abbrev pub same_base : Base → Base → Bool
same_base Int Int = true
same_base Int Truth = false
same_base Truth Int = false
same_base Truth Truth = true

abbrev pub kind_of : Shape → Kind
kind_of s = nested s.maps (base_of s.base)

abbrev pub kind_seen : Option Shape → Option Kind
kind_seen s = option_map kind_of s
