-- How many brackets, prefix signs, `if` expressions and ranges of map types lie around the deepest token of the canonical text.
use Rattle.std.specs.Prelude.{ℕ, suc, max, true, false, Option, Some, None}
use Rattle.bpl_ast.specs.Place.{Ty, integer, boolean, named, map_type, Tys, no_tys, ty}
use Rattle.bpl_ast.specs.Tree.{Expr, expr, Node, number, truth, variable, apply, old, choose, quantified, iffs, implies, ands, ors, related, sums, products, negation, minus, indexed, Exprs, no_exprs, item, Terms, no_terms, plus, less, Indices, no_indices, at_index, update, Triggers, no_triggers, trigger, Groups, no_groups, group, Clause, no_clause, clause}
use Rattle.canonical_text.specs.declared.level.Level.{Level}
use Rattle.canonical_text.specs.declared.level.Level.TheVariants.{Equivalence, Implication, Junction, Comparison, Sum, Product, Unary, Atom}
use Rattle.canonical_text.specs.declared.sign.Sign.{Sign}
use Rattle.canonical_text.specs.declared.sign.Sign.TheVariants.{IffSign, ImpliesSign, AndSign, OrSign, RelationSign, TermSign, FactorSign, IndexSign}
use Rattle.canonical_text.specs.Parens.{needs_parens}
use Rattle.canonical_text.specs.Expression.{behind, behind_term}

abbrev mutual
  pub type_depth : Ty → ℕ
  type_depth (integer p) = 0
  type_depth (boolean p) = 0
  type_depth (named p n) = 0
  type_depth (map_type p ps ds r) = suc (max (types_depth ds) (type_depth r))

  pub types_depth : Tys → ℕ
  types_depth no_tys = 0
  types_depth (ty t ts) = max (type_depth t) (types_depth ts)

abbrev mutual
  pub operand_depth : Level → Option Sign → Expr → ℕ
  operand_depth w s (expr p n) = elim (needs_parens w s n) [ true ↦ suc (node_depth None n) | false ↦ node_depth s n ]

  pub node_depth : Option Sign → Node → ℕ
  node_depth s (number n) = 0
  node_depth s (truth b) = 0
  node_depth s (variable n) = 0
  node_depth s (apply n xs) = enclosed_depth xs
  node_depth s (old p x) = suc (operand_depth Equivalence None x)
  node_depth s (choose c x y) = suc (max (operand_depth Equivalence None c) (max (operand_depth Equivalence None x) (operand_depth Equivalence s y)))
  node_depth s (quantified q p ps gs rs x) = suc (max (groups_depth gs) (max (triggers_depth rs) (operand_depth Equivalence None x)))
  node_depth s (iffs xs) = run_depth Implication IffSign s xs
  node_depth s (implies xs) = run_depth Junction ImpliesSign s xs
  node_depth s (ands xs) = run_depth Comparison AndSign s xs
  node_depth s (ors xs) = run_depth Comparison OrSign s xs
  node_depth s (related o x y) = max (operand_depth Sum (Some RelationSign) x) (operand_depth Sum s y)
  node_depth s (sums x ts) = max (operand_depth Product (Some TermSign) x) (terms_depth s ts)
  node_depth s (products xs) = run_depth Unary FactorSign s xs
  node_depth s (negation x) = suc (operand_depth Unary s x)
  node_depth s (minus x) = suc (operand_depth Unary s x)
  node_depth s (indexed x is) = max (operand_depth Atom (Some IndexSign) x) (indices_depth is)

  pub run_depth : Level → Sign → Option Sign → Exprs → ℕ
  run_depth w inner s no_exprs = 0
  run_depth w inner s (item x xs) = max (operand_depth w (behind inner s xs) x) (run_depth w inner s xs)

  -- each of them in brackets
  pub enclosed_depth : Exprs → ℕ
  enclosed_depth no_exprs = 0
  enclosed_depth (item x xs) = max (suc (operand_depth Equivalence None x)) (enclosed_depth xs)

  pub terms_depth : Option Sign → Terms → ℕ
  terms_depth s no_terms = 0
  terms_depth s (plus x ts) = max (operand_depth Product (behind_term s ts) x) (terms_depth s ts)
  terms_depth s (less x ts) = max (operand_depth Product (behind_term s ts) x) (terms_depth s ts)

  pub indices_depth : Indices → ℕ
  indices_depth no_indices = 0
  indices_depth (at_index x is) = max (suc (operand_depth Equivalence None x)) (indices_depth is)
  indices_depth (update x y is) = max (suc (operand_depth Equivalence None x)) (max (suc (operand_depth Equivalence None y)) (indices_depth is))

  pub triggers_depth : Triggers → ℕ
  triggers_depth no_triggers = 0
  triggers_depth (trigger p xs rs) = max (enclosed_depth xs) (triggers_depth rs)

  pub groups_depth : Groups → ℕ
  groups_depth no_groups = 0
  groups_depth (group ns t c gs) = max (type_depth t) (max (clause_depth c) (groups_depth gs))

  pub clause_depth : Clause → ℕ
  clause_depth no_clause = 0
  clause_depth (clause p x) = operand_depth Equivalence None x

abbrev pub expression_depth : Expr → ℕ
expression_depth x = operand_depth Equivalence None x
