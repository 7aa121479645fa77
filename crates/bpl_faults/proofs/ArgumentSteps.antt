-- Arguments with the sorts of their parameters, of which there may be fewer.
use Rattle.std.proofs.Common.{◌≡◌, refl, sym, ap, ◌∙◌, ℕ, zero, suc, ◌+◌, ◌<◌, ◌≤◌, Bool, true, false, ◌&&◌, ◌==◌, List, [], ◌∷◌, ◌++◌, length, drop, slice_get, get_or, drop-cons, arith, Option, Some, None}
use Rattle.std.proofs.lemmas.Bool.{false_from_ne_true}
use Rattle.std.proofs.lemmas.Bool.Decides.{Decides-eqb}
use Rattle.logic_terms.specs.Tree.{Kind}
use Rattle.bpl_ast.specs.Tree.{Expr, first_place}
use Rattle.bpl_ast.specs.ExprView.{exprs_of}
use Rattle.bpl_scopes.specs.declared.fault.Fault.{Fault}
use Rattle.bpl_scopes.specs.declared.shape.Shape.{Shape}
use Rattle.bpl_scopes.specs.Fault.{earlier, first_fault}
use Rattle.bpl_scopes.specs.Scopes.{Scope}
use Rattle.bpl_scopes.specs.Shape.{kind_seen}
use Rattle.bpl_scopes.specs.KnownSorts.{shapes_seen}
use Rattle.bpl_scopes.specs.Sorts.{sort_in, sorts_in, are_same, is_same}
use Rattle.bpl_scopes.proofs.FirstFault.{joins}
use Rattle.bpl_faults.specs.NameFaults.{same_sort_faults}
use Rattle.bpl_faults.specs.ExprFaults.{expr_faults, argument_faults, count}
use Rattle.bpl_faults.specs.Arguments.{argument_fits, one_argument_faults}
use Rattle.bpl_faults.proofs.ExprSteps.{joins_two}

pub arguments_next : (found : Option Fault) (s : Scope) (ks : List (Option Shape)) (x : Expr) (xs : List Expr)
    → earlier found (first_fault (argument_faults s (shapes_seen ks) (exprs_of (x ∷ xs)))) ≡ earlier (earlier found (first_fault (one_argument_faults s (slice_get ks 0) x))) (first_fault (argument_faults s (shapes_seen (drop 1 ks)) (exprs_of xs)))
arguments_next found s [] x xs = joins found (expr_faults s false x) (argument_faults s [] (exprs_of xs))
arguments_next found s (k ∷ ks) x xs = joins_two found (expr_faults s false x) (same_sort_faults (kind_seen k) (sort_in s x) (first_place x)) (argument_faults s (shapes_seen ks) (exprs_of xs))

pub sorts_next : (s : Scope) (ks : List (Option Shape)) (x : Expr) (xs : List Expr)
    → are_same (shapes_seen ks) (sorts_in s (exprs_of (x ∷ xs))) ≡ (argument_fits (slice_get ks 0) (sort_in s x) && are_same (shapes_seen (drop 1 ks)) (sorts_in s (exprs_of xs)))
sorts_next s [] x xs = refl
sorts_next s (k ∷ ks) x xs = refl

pub count_is : (xs : List Expr) → count (exprs_of xs) ≡ length xs
count_is [] = refl
count_is (x ∷ xs) = omega (arith, count_is xs)

-- whether no sort is left over
pub rest_is : (ks : List (Option Shape)) → (length ks == 0) ≡ are_same (shapes_seen ks) []
rest_is [] = refl
rest_is (k ∷ ks) = false_from_ne_true (length (k ∷ ks) == 0) (λ h. let e : length (k ∷ ks) ≡ 0 = (Decides-eqb (length (k ∷ ks)) 0).0 h in absurd (omega arith))
