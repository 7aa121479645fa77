-- The number of nodes of a type, an expression and a statement.
use Rattle.std.specs.Prelude.{ℕ, ◌+◌}
use Rattle.bpl_ast.specs.Place.{Ty, integer, boolean, named, map_type, Tys, no_tys, ty}
use Rattle.bpl_ast.specs.Tree.{Expr, expr, Node, number, truth, variable, apply, old, choose, quantified, iffs, implies, ands, ors, related, sums, products, negation, minus, indexed, Exprs, no_exprs, item, Terms, no_terms, plus, less, Indices, no_indices, at_index, update, Triggers, no_triggers, trigger, Groups, no_groups, group, Clause, no_clause, clause}
use Rattle.bpl_ast.specs.Statement.{Stmt, stmt, Action, assert, assume, havoc, assign, call, branches, loop, «break», «return», goto, Branches, branch, otherwise, no_branch, Stmts, no_stmts, next}

abbrev mutual
  pub ty_nodes : Ty → ℕ
  ty_nodes (integer p) = 1
  ty_nodes (boolean p) = 1
  ty_nodes (named p n) = 1
  ty_nodes (map_type p ps ds r) = tys_nodes ds + ty_nodes r + 1

  pub tys_nodes : Tys → ℕ
  tys_nodes no_tys = 0
  tys_nodes (ty t ts) = ty_nodes t + tys_nodes ts

abbrev mutual
  pub nodes : Expr → ℕ
  nodes (expr p n) = inner_nodes n

  pub inner_nodes : Node → ℕ
  inner_nodes (number n) = 1
  inner_nodes (truth b) = 1
  inner_nodes (variable n) = 1
  inner_nodes (apply n xs) = exprs_nodes xs + 1
  inner_nodes (old p x) = nodes x + 1
  inner_nodes (choose c x y) = nodes c + nodes x + nodes y + 1
  inner_nodes (quantified q p ps gs rs x) = groups_nodes gs + triggers_nodes rs + nodes x + 1
  inner_nodes (iffs xs) = exprs_nodes xs + 1
  inner_nodes (implies xs) = exprs_nodes xs + 1
  inner_nodes (ands xs) = exprs_nodes xs + 1
  inner_nodes (ors xs) = exprs_nodes xs + 1
  inner_nodes (related o x y) = nodes x + nodes y + 1
  inner_nodes (sums x ts) = nodes x + terms_nodes ts + 1
  inner_nodes (products xs) = exprs_nodes xs + 1
  inner_nodes (negation x) = nodes x + 1
  inner_nodes (minus x) = nodes x + 1
  inner_nodes (indexed x is) = nodes x + indices_nodes is + 1

  pub exprs_nodes : Exprs → ℕ
  exprs_nodes no_exprs = 0
  exprs_nodes (item x xs) = nodes x + exprs_nodes xs

  pub terms_nodes : Terms → ℕ
  terms_nodes no_terms = 0
  terms_nodes (plus x ts) = nodes x + terms_nodes ts
  terms_nodes (less x ts) = nodes x + terms_nodes ts

  pub indices_nodes : Indices → ℕ
  indices_nodes no_indices = 0
  indices_nodes (at_index x is) = nodes x + indices_nodes is
  indices_nodes (update x y is) = nodes x + nodes y + indices_nodes is

  pub triggers_nodes : Triggers → ℕ
  triggers_nodes no_triggers = 0
  triggers_nodes (trigger p xs rs) = exprs_nodes xs + triggers_nodes rs

  pub groups_nodes : Groups → ℕ
  groups_nodes no_groups = 0
  groups_nodes (group ns t c gs) = clause_nodes c + groups_nodes gs

  pub clause_nodes : Clause → ℕ
  clause_nodes no_clause = 0
  clause_nodes (clause p x) = nodes x

abbrev mutual
  pub stmt_nodes : Stmt → ℕ
  stmt_nodes (stmt ls p a) = action_nodes a

  pub action_nodes : Action → ℕ
  action_nodes (assert x) = 1
  action_nodes (assume x) = 1
  action_nodes (havoc ns) = 1
  action_nodes (assign ts xs) = 1
  action_nodes (call ns f xs) = 1
  action_nodes (branches bs) = branches_nodes bs + 1
  action_nodes (loop g is ss) = stmts_nodes ss + 1
  action_nodes («break» l) = 1
  action_nodes «return» = 1
  action_nodes (goto ns) = 1

  pub branches_nodes : Branches → ℕ
  branches_nodes (branch p g ss bs) = stmts_nodes ss + branches_nodes bs
  branches_nodes (otherwise ss) = stmts_nodes ss
  branches_nodes no_branch = 0

  pub stmts_nodes : Stmts → ℕ
  stmts_nodes no_stmts = 0
  stmts_nodes (next s ss) = stmt_nodes s + stmts_nodes ss
