-- An argument and its parameter, which is missing where there are more arguments than parameters.
use Rattle.std.specs.Prelude.{Bool, false, List, ◌++◌, map, Option, Some, None}
use Rattle.std.specs.Borrow.{Bor}
use Rattle.logic_terms.specs.Tree.{Kind}
use Rattle.bpl_ast.specs.Place.{Name}
use Rattle.bpl_ast.specs.Tree.{Expr, first_place}
use Rattle.bpl_scopes.specs.declared.fault.Fault.{Fault}
use Rattle.bpl_scopes.specs.declared.shape.Shape.{Shape}
use Rattle.bpl_scopes.specs.Scopes.{Text, Scope}
use Rattle.bpl_scopes.specs.Sorts.{sort_in, is_same}
use Rattle.bpl_scopes.specs.Shape.{kind_seen}
use Rattle.bpl_faults.specs.NameFaults.{same_sort_faults}
use Rattle.bpl_faults.specs.ExprFaults.{expr_faults}

abbrev pub argument_fits : Option (Option Shape) → Option Kind → Bool
argument_fits None j = false
argument_fits (Some k) j = is_same (kind_seen k) j

abbrev pub one_argument_faults : Scope → Option (Option Shape) → Expr → List Fault
one_argument_faults s None x = expr_faults s false x
one_argument_faults s (Some k) x = expr_faults s false x ++ same_sort_faults (kind_seen k) (sort_in s x) (first_place x)

abbrev pub names_seen : List (Bor Name) → List Name
names_seen ns = map (λ n. n.now) ns

abbrev pub texts_seen : List (Bor Text) → List Text
texts_seen ns = map (λ n. n.now) ns
