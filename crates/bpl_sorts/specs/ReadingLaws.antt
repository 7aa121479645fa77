-- The two readings of user types together tell types.
use Rattle.std.specs.Prelude.{◌≡◌, Bool, List}
use Rattle.bpl_ast.specs.Place.{Ty as Written}
use Rattle.bpl_ast.specs.Tree.{Expr}
use Rattle.bpl_ast.specs.Statement.{Decl}
use Rattle.bpl_scopes.specs.Scopes.{Text, Scope, table_of}
use Rattle.bpl_scopes.specs.Sorts.{sort_of_type, sort_in}
use Rattle.bpl_terms.specs.Terms.{term_in}
use Rattle.bpl_sorts.specs.Types.{Ty, kind_of, Head}
use Rattle.bpl_sorts.specs.Typed.{HasType}
use Rattle.bpl_sorts.specs.Apart.{apart}
use Rattle.bpl_sorts.specs.TypeNames.{type_of}
use Rattle.user_types.specs.Erased.{erased, told_apart}
use Rattle.bpl_sorts.specs.Readings.{Fits, Has, BoundsAlike, Alike}

-- no two types have one sort in both
abbrev pub SortsTellTypes : Type 0
SortsTellTypes = (s t : Ty) → kind_of s ≡ kind_of t → apart s ≡ apart t → s ≡ t

-- the sorts of a written type are those of the type for which it stands
abbrev pub TypesHaveTheirSorts : Type 0
TypesHaveTheirSorts = (ds : List Decl) (hidden others : List Text) (w : Written) → Fits (sort_of_type (table_of (erased ds)) hidden w) (sort_of_type (table_of (told_apart ds)) others w) (type_of ds w)

-- an expression that has a sort in both has a type: its term has it, over what the names stand for
abbrev pub SortedExpressionsHaveTypes : Type 0
SortedExpressionsHaveTypes = (vars : List Ty) (heads : List Head) (types : Written → Ty) (s t : Scope) → Alike vars heads types s t → (bound : List Ty) → BoundsAlike s.bounds t.bounds bound
    → (in_old : Bool) (x : Expr) → Has (sort_in s x) (sort_in t x) (HasType vars heads bound (term_in s in_old x))
