-- The number of statements in a statement, itself among them.
use Rattle.std.specs.Prelude.{ℕ, ◌+◌}
use Rattle.bpl_model.specs.Module.{Stmt, assert, assume, havoc, assign, call, if_else, while, break, return, goto, labelled, Stmts, no_stmts, stmt}

abbrev mutual
  pub stmt_nodes : Stmt → ℕ
  stmt_nodes (assert mark E) = 1
  stmt_nodes (assume at E) = 1
  stmt_nodes (havoc at xs) = 1
  stmt_nodes (assign at ps) = 1
  stmt_nodes (call at q es xs) = 1
  stmt_nodes (if_else at has_else g ss ts) = stmts_nodes ss + stmts_nodes ts + 1
  stmt_nodes (while at g is ss) = stmts_nodes ss + 1
  stmt_nodes (break at l) = 1
  stmt_nodes (return at) = 1
  stmt_nodes (goto at ls) = 1
  stmt_nodes (labelled ls s) = stmt_nodes s + 1

  pub stmts_nodes : Stmts → ℕ
  stmts_nodes no_stmts = 0
  stmts_nodes (stmt s ss) = stmt_nodes s + stmts_nodes ss
