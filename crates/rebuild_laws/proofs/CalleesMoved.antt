-- Statements go alike over more callees.
use Rattle.std.specs.Prelude.{ℕ}
use Rattle.bpl_model.specs.Module.{Guard, Stmt, Stmts}
use Rattle.rebuild_laws.specs.Alike.{AlikeGuard, free_choice, guarded, AlikeStmt, asserts, assumes, havocs, assigns, branches, loops, breaks, returns, jumps, calls_so, labels, AlikeStmts, none_more, a_stmt}

-- statements go alike over callees that do by more
module _ (new_def new_var : ℕ → ℕ) (D V : ℕ → Type 0) (C E : ℕ → ℕ → Type 0) (more : (k l : ℕ) → C k l → E k l) where
  guard_moved : (g h : Guard) → AlikeGuard new_def new_var D V C g h → AlikeGuard new_def new_var D V E g h
  guard_moved _ _ free_choice = free_choice
  guard_moved _ _ (guarded h) = guarded h

  mutual
    stmt_moved : (s t : Stmt) → AlikeStmt new_def new_var D V C s t → AlikeStmt new_def new_var D V E s t
    stmt_moved _ _ (asserts h) = asserts h
    stmt_moved _ _ (assumes h) = assumes h
    stmt_moved _ _ (havocs h) = havocs h
    stmt_moved _ _ (assigns h) = assigns h
    stmt_moved _ _ (branches {g = g} {h = h} {ss = ss} {ts = ts} {us = us} {ws = ws} c a b) = branches (guard_moved g h c) (stmts_moved ss ts a) (stmts_moved us ws b)
    stmt_moved _ _ (loops {g = g} {h = h} {ss = ss} {ts = ts} c i a) = loops (guard_moved g h c) i (stmts_moved ss ts a)
    stmt_moved _ _ breaks = breaks
    stmt_moved _ _ returns = returns
    stmt_moved _ _ jumps = jumps
    stmt_moved _ _ (calls_so {k = k} {l = l} c e h) = calls_so (more k l c) e h
    stmt_moved _ _ (labels {s = s} {t = t} a) = labels (stmt_moved s t a)

    pub stmts_moved : (ss ts : Stmts) → AlikeStmts new_def new_var D V C ss ts → AlikeStmts new_def new_var D V E ss ts
    stmts_moved _ _ none_more = none_more
    stmts_moved _ _ (a_stmt {s = s} {t = t} {ss = ss} {ts = ts} a rest) = a_stmt (stmt_moved s t a) (stmts_moved ss ts rest)
