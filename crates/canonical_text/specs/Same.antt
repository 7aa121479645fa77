-- The same tree but for places.
use Rattle.std.specs.Prelude.{◌≡◌, List, map, Option, option_map}
use Rattle.bv_base.specs.declared.place.Place.{Place}
use Rattle.bpl_ast.specs.Place.{Name, Params, Ty, integer, boolean, named, map_type, Tys, no_tys, ty}
use Rattle.bpl_ast.specs.Tree.{Expr, expr, Node, number, truth, variable, apply, old, choose, quantified, iffs, implies, ands, ors, related, sums, products, negation, minus, indexed, Exprs, no_exprs, item, Terms, no_terms, plus, less, Indices, no_indices, at_index, update, Triggers, no_triggers, trigger, Groups, no_groups, group, Clause, no_clause, clause}

-- the place that stands for each
abbrev pub start : Place
start = record { line = 1; col = 1 }

abbrev pub bare_name : Name → Name
bare_name n = record { text = n.text; at = start }

abbrev pub bare_names : List Name → List Name
bare_names ns = map bare_name ns

abbrev pub bare_params : Option Params → Option Params
bare_params ps = option_map (λ (q : Params). record { at = start; names = bare_names q.names }) ps

-- a tree with that place everywhere
abbrev mutual
  pub bare_type : Ty → Ty
  bare_type (integer p) = integer start
  bare_type (boolean p) = boolean start
  bare_type (named p n) = named start (bare_name n)
  bare_type (map_type p ps ds r) = map_type start (bare_params ps) (bare_types ds) (bare_type r)

  pub bare_types : Tys → Tys
  bare_types no_tys = no_tys
  bare_types (ty t ts) = ty (bare_type t) (bare_types ts)

abbrev mutual
  pub bare : Expr → Expr
  bare (expr p n) = expr start (bare_node n)

  pub bare_node : Node → Node
  bare_node (number n) = number n
  bare_node (truth b) = truth b
  bare_node (variable n) = variable (bare_name n)
  bare_node (apply n xs) = apply (bare_name n) (bare_exprs xs)
  bare_node (old p x) = old start (bare x)
  bare_node (choose c x y) = choose (bare c) (bare x) (bare y)
  bare_node (quantified q p ps gs rs x) = quantified q start (bare_params ps) (bare_groups gs) (bare_triggers rs) (bare x)
  bare_node (iffs xs) = iffs (bare_exprs xs)
  bare_node (implies xs) = implies (bare_exprs xs)
  bare_node (ands xs) = ands (bare_exprs xs)
  bare_node (ors xs) = ors (bare_exprs xs)
  bare_node (related o x y) = related o (bare x) (bare y)
  bare_node (sums x ts) = sums (bare x) (bare_terms ts)
  bare_node (products xs) = products (bare_exprs xs)
  bare_node (negation x) = negation (bare x)
  bare_node (minus x) = minus (bare x)
  bare_node (indexed x is) = indexed (bare x) (bare_indices is)

  pub bare_exprs : Exprs → Exprs
  bare_exprs no_exprs = no_exprs
  bare_exprs (item x xs) = item (bare x) (bare_exprs xs)

  pub bare_terms : Terms → Terms
  bare_terms no_terms = no_terms
  bare_terms (plus x ts) = plus (bare x) (bare_terms ts)
  bare_terms (less x ts) = less (bare x) (bare_terms ts)

  pub bare_indices : Indices → Indices
  bare_indices no_indices = no_indices
  bare_indices (at_index x is) = at_index (bare x) (bare_indices is)
  bare_indices (update x y is) = update (bare x) (bare y) (bare_indices is)

  pub bare_triggers : Triggers → Triggers
  bare_triggers no_triggers = no_triggers
  bare_triggers (trigger p xs rs) = trigger start (bare_exprs xs) (bare_triggers rs)

  pub bare_groups : Groups → Groups
  bare_groups no_groups = no_groups
  bare_groups (group ns t c gs) = group (bare_names ns) (bare_type t) (bare_clause c) (bare_groups gs)

  pub bare_clause : Clause → Clause
  bare_clause no_clause = no_clause
  bare_clause (clause p x) = clause start (bare x)

abbrev pub SameType : Ty → Ty → Type 0
SameType x y = bare_type x ≡ bare_type y

abbrev pub Same : Expr → Expr → Type 0
Same x y = bare x ≡ bare y
