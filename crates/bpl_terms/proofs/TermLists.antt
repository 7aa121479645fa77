-- The terms of lists of the tree are those of each.
use Rattle.std.proofs.Common.{◌≡◌, refl, ap, Bool, List, [], ◌∷◌}
use Rattle.logic_core.specs.View.{trees_of, parts_of, patterns_of}
use Rattle.bpl_ast.specs.Tree.{Expr}
use Rattle.bpl_ast.specs.ExprView.{exprs_of, terms_of, triggers_of}
use Rattle.bpl_ast.specs.declared.expr.Term.{Term}
use Rattle.bpl_ast.specs.declared.expr.Term.TheVariants.{Plus, Less}
use Rattle.bpl_ast.specs.declared.expr.Trigger.{Trigger}
use Rattle.bpl_scopes.specs.Scopes.{Scope}
use Rattle.logic_core.specs.Tree.{tree, part, pattern}
use Rattle.std.specs.Prelude.{pos, negsuc}
use Rattle.bpl_terms.specs.Terms.{term_in, terms_in, parts_in, patterns_in}
use Rattle.bpl_terms.specs.TermParts.{each_term, each_part, each_pattern}

pub terms_are : (s : Scope) (in_old : Bool) (xs : List Expr) → trees_of (each_term s in_old xs) ≡ terms_in s in_old (exprs_of xs)
terms_are s in_old [] = refl
terms_are s in_old (x ∷ xs) = ap (tree (term_in s in_old x)) (terms_are s in_old xs)

pub parts_are : (s : Scope) (in_old : Bool) (ts : List Term) → parts_of (each_part s in_old ts) ≡ parts_in s in_old (terms_of ts)
parts_are s in_old [] = refl
parts_are s in_old (Plus x ∷ ts) = ap (part (pos 1) (term_in s in_old x)) (parts_are s in_old ts)
parts_are s in_old (Less x ∷ ts) = ap (part (negsuc 0) (term_in s in_old x)) (parts_are s in_old ts)

pub patterns_are : (s : Scope) (in_old : Bool) (rs : List Trigger) → patterns_of (each_pattern s in_old rs) ≡ patterns_in s in_old (triggers_of rs)
patterns_are s in_old [] = refl
patterns_are s in_old (r ∷ rs) = (λ i. pattern (terms_are s in_old r.patterns.items i) (patterns_are s in_old rs i))
