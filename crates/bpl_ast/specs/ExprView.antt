-- What an expression of the code stands for.
use Rattle.std.specs.Prelude.{Vec, List, [], ◌∷◌, map, Option, Some, None}
use Rattle.std.specs.declared.alloc.Global.{Global}
use Rattle.bv_base.specs.declared.place.Place.{Place}
use Rattle.bpl_ast.specs.Place.{Name, Ty}
use Rattle.bpl_ast.specs.Tree.{Relation as Comparison, eq, ne, lt, le, gt, ge, Quantifier as Binder, for_all, exists, Expr, Node, number, truth, variable, apply, old, choose, quantified, iffs, implies, ands, ors, related, sums, products, negation, minus, indexed, Exprs, no_exprs, item, Terms, no_terms, plus, less, Indices, no_indices, at_index, update, Triggers, no_triggers, trigger, Groups, no_groups, group, Clause, no_clause, clause}
use Rattle.bpl_ast.specs.declared.expr.Relation.{Relation}
use Rattle.bpl_ast.specs.declared.expr.Relation.TheVariants.{Equal, NotEqual, Less as Below, AtMost, Greater, AtLeast}
use Rattle.bpl_ast.specs.declared.expr.Quantifier.{Quantifier}
use Rattle.bpl_ast.specs.declared.expr.Quantifier.TheVariants.{ForAll, Exists}
use Rattle.bpl_ast.specs.declared.expr.Term.{Term}
use Rattle.bpl_ast.specs.declared.expr.Term.TheVariants.{Plus, Less}
use Rattle.bpl_ast.specs.declared.expr.Index.{Index}
use Rattle.bpl_ast.specs.declared.expr.Index.TheVariants.{Read, Write}
use Rattle.bpl_ast.specs.declared.expr.Trigger.{Trigger}
use Rattle.bpl_ast.specs.declared.expr.Group.{Group}
use Rattle.bpl_ast.specs.declared.expr.Where.{Where}
use Rattle.bpl_ast.specs.declared.expr.ExprForm.{ExprForm}
use Rattle.bpl_ast.specs.declared.expr.ExprForm.TheVariants.{Number, Truth, Variable, Apply, Old, If, Quantified, Iff, Implies, And, Or, Compared, Sum, Product, Not, Minus, Indexed}

abbrev pub relation_of : Relation → Comparison
relation_of Equal = eq
relation_of NotEqual = ne
relation_of Below = lt
relation_of AtMost = le
relation_of Greater = gt
relation_of AtLeast = ge

abbrev pub quantifier_of : Quantifier → Binder
quantifier_of ForAll = for_all
quantifier_of Exists = exists

abbrev pub exprs_of : List Expr → Exprs
exprs_of [] = no_exprs
exprs_of (x ∷ xs) = item x (exprs_of xs)

abbrev pub term_of : Term → Terms → Terms
term_of (Plus x) ts = plus x ts
term_of (Less x) ts = less x ts

abbrev pub terms_of : List Term → Terms
terms_of [] = no_terms
terms_of (t ∷ ts) = term_of t (terms_of ts)

abbrev pub index_of : Index → Indices → Indices
index_of (Read x) is = at_index x is
index_of (Write x y) is = update x y is

abbrev pub indices_of : List Index → Indices
indices_of [] = no_indices
indices_of (i ∷ is) = index_of i (indices_of is)

-- what each trigger says
abbrev pub each_trigger : List Trigger → List (Place × List Expr)
each_trigger ts = map (λ t. (t.at, t.patterns.items)) ts

abbrev pub triggers_from : List (Place × List Expr) → Triggers
triggers_from [] = no_triggers
triggers_from (t ∷ ts) = trigger t.0 (exprs_of t.1) (triggers_from ts)

abbrev pub triggers_of : List Trigger → Triggers
triggers_of ts = triggers_from (each_trigger ts)

abbrev pub clause_of : Option Where → Clause
clause_of None = no_clause
clause_of (Some w) = clause w.at w.condition

-- what each group says
abbrev pub each_group : List Group → List (List Name × (Ty × Option Where))
each_group gs = map (λ g. (g.names.items, (g.of, g.condition))) gs

abbrev pub groups_from : List (List Name × (Ty × Option Where)) → Groups
groups_from [] = no_groups
groups_from (g ∷ gs) = group g.0 g.1.0 (clause_of g.1.1) (groups_from gs)

abbrev pub groups_of : List Group → Groups
groups_of gs = groups_from (each_group gs)

abbrev pub node_of : ExprForm → Node
node_of (Number n) = number n
node_of (Truth b) = truth b
node_of (Variable n) = variable n
node_of (Apply n xs) = apply n (exprs_of xs.items)
node_of (Old p x) = old p x.value
node_of (If c x y) = choose c.value x.value y.value
node_of (Quantified q p ps gs ts x) = quantified (quantifier_of q) p ps (groups_of gs.items) (triggers_of ts.items) x.value
node_of (Iff xs) = iffs (exprs_of xs.items)
node_of (Implies xs) = implies (exprs_of xs.items)
node_of (And xs) = ands (exprs_of xs.items)
node_of (Or xs) = ors (exprs_of xs.items)
node_of (Compared r x y) = related (relation_of r) x.value y.value
node_of (Sum x ts) = sums x.value (terms_of ts.items)
node_of (Product xs) = products (exprs_of xs.items)
node_of (Not x) = negation x.value
node_of (Minus x) = minus x.value
node_of (Indexed x is) = indexed x.value (indices_of is.items)

-- the groups of each `var`
abbrev pub each_groups_of : List (Vec Group Global) → List Groups
each_groups_of vs = map (λ v. groups_of v.items) vs
