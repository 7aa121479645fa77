-- What a type of the code stands for.
use Rattle.std.specs.Prelude.{List, [], ◌∷◌}
use Rattle.bv_base.specs.declared.place.Place.{Place}
use Rattle.bpl_ast.specs.Place.{Ty, integer, boolean, named, map_type, Tys, no_tys, ty}
use Rattle.bpl_ast.specs.declared.types.TypeForm.{TypeForm}
use Rattle.bpl_ast.specs.declared.types.TypeForm.TheVariants.{Int, Bool, Named, Map}

abbrev pub tys_of : List Ty → Tys
tys_of [] = no_tys
tys_of (t ∷ ts) = ty t (tys_of ts)

abbrev pub type_of : Place → TypeForm → Ty
type_of p Int = integer p
type_of p Bool = boolean p
type_of p (Named n) = named p n
type_of p (Map ps ds r) = map_type p ps (tys_of ds.items) r.value
