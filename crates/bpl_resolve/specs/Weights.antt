-- How heavy statements are: each statement and each branch of an `if` counts.
use Rattle.std.specs.Prelude.{ℕ, ◌+◌}
use Rattle.bpl_ast.specs.Statement.{Stmt, stmt, Action, assert, assume, havoc, assign, call, branches, loop, «break», «return», goto, Branches, branch, otherwise, no_branch, Stmts, no_stmts, next}

abbrev mutual
  pub stmt_weight : Stmt → ℕ
  stmt_weight (stmt ls p a) = action_weight a

  pub action_weight : Action → ℕ
  action_weight (assert x) = 1
  action_weight (assume x) = 1
  action_weight (havoc ns) = 1
  action_weight (assign ts xs) = 1
  action_weight (call ns f xs) = 1
  action_weight (branches bs) = branches_weight bs + 1
  action_weight (loop g is ss) = stmts_weight ss + 1
  action_weight («break» l) = 1
  action_weight «return» = 1
  action_weight (goto ns) = 1

  pub branches_weight : Branches → ℕ
  branches_weight (branch p g ss bs) = stmts_weight ss + branches_weight bs + 1
  branches_weight (otherwise ss) = stmts_weight ss
  branches_weight no_branch = 0

  pub stmts_weight : Stmts → ℕ
  stmts_weight no_stmts = 0
  stmts_weight (next s ss) = stmt_weight s + stmts_weight ss
