-- The statements of a list of the tree are those of each.
use Rattle.std.proofs.Common.{◌≡◌, refl, ap, false, List, [], ◌∷◌, map}
use Rattle.bpl_ast.specs.Tree.{Expr}
use Rattle.bpl_ast.specs.ExprView.{exprs_of}
use Rattle.bpl_ast.specs.Statement.{Stmt as Statement}
use Rattle.bpl_ast.specs.StmtView.{stmts_of as stmts_tree}
use Rattle.bpl_model.specs.Module.{stmt}
use Rattle.bpl_model.specs.StmtView.{stmts_of as module_stmts}
use Rattle.bpl_scopes.specs.Scopes.{Scope}
use Rattle.bpl_terms.specs.Terms.{term_of}
use Rattle.bpl_terms.specs.TermParts.{each_term}
use Rattle.bpl_resolve.specs.Elaborate.{arguments, stmts_of, stmt_of}

pub stmts_are : (s : Scope) (ss : List Statement) → module_stmts (map (stmt_of s) ss) ≡ stmts_of s (stmts_tree ss)
stmts_are s [] = refl
stmts_are s (x ∷ xs) = ap (stmt (stmt_of s x)) (stmts_are s xs)

-- the arguments of a call are the terms of each
pub arguments_are : (s : Scope) (xs : List Expr) → each_term s false xs ≡ arguments s (exprs_of xs)
arguments_are s [] = refl
arguments_are s (x ∷ xs) = ap (λ ts. term_of s x ∷ ts) (arguments_are s xs)
