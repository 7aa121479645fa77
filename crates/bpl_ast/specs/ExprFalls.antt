-- An expression inside an expression is smaller.
use Rattle.std.specs.Prelude.{◌+◌, ◌≤◌, max, Vec, List, [], ◌∷◌, Option, Some, None}
use Rattle.std.proofs.Common.{arith}
use Rattle.bpl_ast.specs.Tree.{Expr}
use Rattle.bpl_ast.specs.Nodes.{nodes, inner_nodes, exprs_nodes, terms_nodes, indices_nodes, triggers_nodes, groups_nodes, clause_nodes}
use Rattle.bpl_ast.specs.ExprView.{exprs_of, terms_of, indices_of, triggers_of, clause_of, groups_of, node_of}
use Rattle.bpl_ast.specs.declared.expr.Term.{Term}
use Rattle.bpl_ast.specs.declared.expr.Term.TheVariants.{Plus, Less}
use Rattle.bpl_ast.specs.declared.expr.Index.{Index}
use Rattle.bpl_ast.specs.declared.expr.Index.TheVariants.{Read, Write}
use Rattle.bpl_ast.specs.declared.expr.Trigger.{Trigger}
use Rattle.bpl_ast.specs.declared.expr.Group.{Group}
use Rattle.bpl_ast.specs.declared.expr.Where.{Where}
use Rattle.std.specs.declared.alloc.Global.{Global}
use Rattle.bpl_ast.specs.Place.{Name, Ty}
use Rattle.bpl_ast.specs.declared.expr.ExprForm.{ExprForm}
use Rattle.bpl_ast.specs.declared.expr.ExprForm.TheVariants.{Number, Truth, Variable, Apply, Old, If, Quantified, Iff, Implies, And, Or, Compared, Sum, Product, Not, Minus, Indexed}
use denote.Param.Weighed.{most}
use Rattle.bpl_ast.specs.declared.expr.Expr.TheDeep.{deep-ExprForm, deep-Term, deep-Index, deep-Trigger, deep-Group}

most_exprs : (xs : List Expr) → most (λ y. nodes y + 1) xs ≤ exprs_nodes (exprs_of xs) + 1
most_exprs [] = omega arith
most_exprs (x ∷ xs) = omega (arith, most_exprs xs)

most_terms : (ts : List Term) → most deep-Term ts ≤ terms_nodes (terms_of ts) + 1
most_terms [] = omega arith
most_terms (Plus x ∷ ts) = omega (arith, most_terms ts)
most_terms (Less x ∷ ts) = omega (arith, most_terms ts)

most_indices : (is : List Index) → most deep-Index is ≤ indices_nodes (indices_of is) + 1
most_indices [] = omega arith
most_indices (Read x ∷ is) = omega (arith, most_indices is)
most_indices (Write x y ∷ is) = omega (arith, most_indices is)

most_triggers : (ts : List Trigger) → most deep-Trigger ts ≤ triggers_nodes (triggers_of ts) + 1
most_triggers [] = omega arith
most_triggers (t ∷ ts) = omega (arith, most_exprs t.patterns.items, most_triggers ts)

deep_group : (ns : Vec Name Global) (t : Ty) (c : Option Where) → deep-Group (record { names = ns; of = t; condition = c }) ≤ clause_nodes (clause_of c) + 1
deep_group ns t None = omega arith
deep_group ns t (Some w) = omega arith

most_groups : (gs : List Group) → most deep-Group gs ≤ groups_nodes (groups_of gs) + 1
most_groups [] = omega arith
most_groups (g ∷ gs) = omega (arith, deep_group g.names g.of g.condition, most_groups gs)

pub expr_falls : (f : ExprForm) → max (deep-ExprForm f) 0 ≤ inner_nodes (node_of f)
expr_falls (Number n) = omega arith
expr_falls (Truth b) = omega arith
expr_falls (Variable n) = omega arith
expr_falls (Apply n xs) = omega (arith, most_exprs xs.items)
expr_falls (Old p x) = omega arith
expr_falls (If c x y) = omega arith
expr_falls (Quantified q p ps gs ts x) = omega (arith, most_groups gs.items, most_triggers ts.items)
expr_falls (Iff xs) = omega (arith, most_exprs xs.items)
expr_falls (Implies xs) = omega (arith, most_exprs xs.items)
expr_falls (And xs) = omega (arith, most_exprs xs.items)
expr_falls (Or xs) = omega (arith, most_exprs xs.items)
expr_falls (Compared r x y) = omega arith
expr_falls (Sum x ts) = omega (arith, most_terms ts.items)
expr_falls (Product xs) = omega (arith, most_exprs xs.items)
expr_falls (Not x) = omega arith
expr_falls (Minus x) = omega arith
expr_falls (Indexed x is) = omega (arith, most_indices is.items)
