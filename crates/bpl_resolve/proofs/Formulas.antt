-- A formula without faults, of a contract, a clause or a body, has a term that is a formula, over a scope that Faultless and TermSorts speak of.
use Rattle.std.proofs.Common.{◌≡◌, sym, ◌∙◌, inl, inr, true, false, List, [], Option, Some, None}
use Rattle.logic_core.specs.Tree.{Kind, boolean}
use Rattle.logic_core.specs.Def.{Def}
use Rattle.logic_core.specs.Sorts.{sort_of}
use Rattle.bpl_ast.specs.Tree.{Expr, first_place}
use Rattle.bpl_scopes.specs.Scopes.{Scope}
use Rattle.bpl_scopes.specs.Sorts.{sort_in}
use Rattle.bpl_faults.specs.ExprFaults.{expr_faults, formula_faults}
use Rattle.bpl_terms.specs.Terms.{term_of}
use Rattle.bpl_resolve.proofs.Below.{Below}
use Rattle.bpl_resolve.proofs.TermSorts.{BoundsFit, Fits, sorted}
use Rattle.bpl_resolve.proofs.HasSort.{first_empty, second_empty, has_sort}
use Rattle.bpl_resolve.proofs.Faultless.{KnownBounds, NamesKnown, has_known}

is_boolean : (o q : Option Kind) → o ≡ Some boolean → Below o q → q ≡ Some boolean
is_boolean o q h (inl e) = let bad : None ≡ Some boolean = sym e ∙ h in cc
is_boolean o q h (inr e) = sym e ∙ h

pub formula_sorted : (vars : List Kind) (defs : List Def) (s : Scope) → NamesKnown s → KnownBounds s.bounds → Fits vars defs s → BoundsFit s.bounds []
    → (x : Expr) → formula_faults s x ≡ [] → sort_of vars defs [] (term_of s x) ≡ Some boolean
formula_sorted vars defs s a k f g x e =
    is_boolean (sort_in s x) _ (has_sort boolean (sort_in s x) (first_place x) (has_known s a k true x (first_empty _ _ e)) (second_empty (expr_faults s true x) _ e))
    (sorted vars defs s f [] g false x)
