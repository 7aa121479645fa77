-- A type inside a type is smaller.
use Rattle.std.specs.Prelude.{◌+◌, ◌≤◌, max, List, [], ◌∷◌}
use Rattle.std.proofs.Common.{arith}
use Rattle.bv_base.specs.declared.place.Place.{Place}
use Rattle.bpl_ast.specs.Place.{Ty}
use Rattle.bpl_ast.specs.Nodes.{ty_nodes, tys_nodes}
use Rattle.bpl_ast.specs.TypeView.{tys_of, type_of}
use Rattle.bpl_ast.specs.declared.types.TypeForm.{TypeForm}
use Rattle.bpl_ast.specs.declared.types.TypeForm.TheVariants.{Int, Bool, Named, Map}
use denote.Param.Weighed.{most}
use Rattle.bpl_ast.specs.declared.types.Type.TheDeep.{deep-TypeForm}

most_tys : (ts : List Ty) → most (λ y. ty_nodes y + 1) ts ≤ tys_nodes (tys_of ts) + 1
most_tys [] = omega arith
most_tys (t ∷ ts) = omega (arith, most_tys ts)

pub type_falls : (p : Place) (f : TypeForm) → max (deep-TypeForm f) 0 ≤ ty_nodes (type_of p f)
type_falls p Int = omega arith
type_falls p Bool = omega arith
type_falls p (Named n) = omega arith
type_falls p (Map ps ds r) = omega (arith, most_tys ds.items)
