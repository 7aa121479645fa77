-- What is said of a chain's last operand.
use Rattle.std.specs.Prelude.{◌≡◌, refl, ◌≤◌, List, [], ◌∷◌, ◌++◌}
use Rattle.std.proofs.Common.{arith}
use Rattle.bpl_ast.specs.Tree.{Expr}
use Rattle.bpl_ast.specs.Nodes.{nodes, exprs_nodes, terms_nodes}
use Rattle.bpl_ast.specs.ExprView.{exprs_of, terms_of}
use Rattle.canonical_text.specs.declared.level.Level.{Level}
use Rattle.canonical_text.specs.declared.sign.Sign.{Sign}
use Rattle.bpl_ast.specs.declared.expr.Term.{Term}
use Rattle.bpl_ast.specs.declared.expr.Term.TheVariants.{Plus, Less}
use Rattle.canonical_text.specs.Parens.{last_chain, operand_chain, last_compared, operand_compared, last_takes, operand_takes, terms_take}

pub last_chain_is : (w : Level) (front : List Expr) (x : Expr) → last_chain w (exprs_of (front ++ x ∷ [])) ≡ operand_chain w x
last_chain_is w [] x = refl
last_chain_is w (y ∷ []) x = refl
last_chain_is w (y ∷ z ∷ front) x = last_chain_is w (z ∷ front) x

pub last_compared_is : (w : Level) (front : List Expr) (x : Expr) → last_compared w (exprs_of (front ++ x ∷ [])) ≡ operand_compared w x
last_compared_is w [] x = refl
last_compared_is w (y ∷ []) x = refl
last_compared_is w (y ∷ z ∷ front) x = last_compared_is w (z ∷ front) x

pub last_takes_is : (s : Sign) (w : Level) (front : List Expr) (x : Expr) → last_takes s w (exprs_of (front ++ x ∷ [])) ≡ operand_takes s w x
last_takes_is s w [] x = refl
last_takes_is s w (y ∷ []) x = refl
last_takes_is s w (y ∷ z ∷ front) x = last_takes_is s w (z ∷ front) x

pub last_counts : (front : List Expr) (x : Expr) → nodes x ≤ exprs_nodes (exprs_of (front ++ x ∷ []))
last_counts [] x = omega arith
last_counts (y ∷ front) x = omega (arith, last_counts front x)

pub terms_take_is : (s : Sign) (front : List Term) (t : Term) → terms_take s (terms_of (front ++ t ∷ [])) ≡ terms_take s (terms_of (t ∷ []))
terms_take_is s [] t = refl
terms_take_is s (Plus y ∷ []) (Plus x) = refl
terms_take_is s (Plus y ∷ []) (Less x) = refl
terms_take_is s (Less y ∷ []) (Plus x) = refl
terms_take_is s (Less y ∷ []) (Less x) = refl
terms_take_is s (Plus y ∷ Plus z ∷ front) t = terms_take_is s (Plus z ∷ front) t
terms_take_is s (Plus y ∷ Less z ∷ front) t = terms_take_is s (Less z ∷ front) t
terms_take_is s (Less y ∷ Plus z ∷ front) t = terms_take_is s (Plus z ∷ front) t
terms_take_is s (Less y ∷ Less z ∷ front) t = terms_take_is s (Less z ∷ front) t

pub last_term_counts : (front : List Term) (t : Term) → terms_nodes (terms_of (t ∷ [])) ≤ terms_nodes (terms_of (front ++ t ∷ []))
last_term_counts [] t = omega arith
last_term_counts (Plus y ∷ front) t = omega (arith, last_term_counts front t)
last_term_counts (Less y ∷ front) t = omega (arith, last_term_counts front t)
