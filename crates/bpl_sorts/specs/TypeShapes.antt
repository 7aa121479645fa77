-- Types as how many maps stand around what is no map; and lists of types that are filled by names.
use Rattle.std.specs.Prelude.{ℕ, zero, suc, ◌+◌, List, [], ◌∷◌, set, Option, Some, None}
use Rattle.bpl_ast.specs.Place.{Ty as Written, integer, boolean, named, map_type}
use Rattle.bpl_scopes.specs.Positions.{first_at}
use Rattle.bpl_scopes.specs.Scopes.{Text}
use Rattle.bpl_sorts.specs.Types.{Ty, integers, truths, carriers, maps, Head}
use Rattle.bpl_sorts.specs.declared.type_names.Base.{Base}
use Rattle.bpl_sorts.specs.declared.type_names.Base.TheVariants.{Int, Bool, User}
use Rattle.bpl_sorts.specs.declared.type_names.Shape.{Shape}
use Rattle.bpl_sorts.specs.declared.type_names.End.{End}
use Rattle.bpl_sorts.specs.declared.type_names.End.TheVariants.{Here, Named}
use Rattle.bpl_sorts.specs.declared.type_names.Walk.{Walk}
use Rattle.bpl_sorts.specs.declared.type_names.Step.{Step}
use Rattle.bpl_sorts.specs.declared.type_names.Step.TheVariants.{User as AUser, Synonym, Other}
use Rattle.bpl_sorts.specs.TypeNames.{type_in}

abbrev pub nested : ℕ → Ty → Ty
nested zero t = t
nested (suc k) t = maps (nested k t)

-- how many maps stand in a written type around what is no map, and what that is
abbrev pub map_depth : Written → ℕ
map_depth (integer p) = 0
map_depth (boolean p) = 0
map_depth (named p n) = 0
map_depth (map_type p ps ds r) = map_depth r + 1

abbrev pub innermost : Written → Written
innermost (integer p) = integer p
innermost (boolean p) = boolean p
innermost (named p n) = named p n
innermost (map_type p ps ds r) = innermost r

abbrev pub base_type : Base → Ty
base_type Int = integers
base_type Bool = truths
base_type (User k) = carriers k

abbrev pub shape_type : Shape → Ty
shape_type s = nested s.maps (base_type s.base)

-- by the types of names
abbrev pub end_type : (Text → Ty) → End → Ty
end_type f (Here b) = base_type b
end_type f (Named n) = f n.now

-- of a written type that is no map
abbrev pub end_in : (Text → Ty) → Written → Ty
end_in f (integer p) = integers
end_in f (boolean p) = truths
end_in f (named p n) = f n.text
end_in f (map_type p ps ds r) = integers

abbrev pub step_type : (Text → Ty) → Step → Ty
step_type f (AUser k) = carriers k
step_type f (Synonym s) = type_in f s.now
step_type f Other = integers

abbrev pub walk_type : (Text → Ty) → Walk → Ty
walk_type f w = nested w.maps (end_type f w.end)

-- ---- functions in an order

abbrev pub put_at : Option ℕ → Head → List Head → List Head
put_at None h hs = hs
put_at (Some k) h hs = set hs k h

-- each of the names puts what it is declared with to its first place in the order
abbrev pub heads_put : (Text → Head) → List Text → List Text → List Head → List Head
heads_put f order [] hs = hs
heads_put f order (n ∷ ns) hs = heads_put f order ns (put_at (first_at n order) (f n) hs)
