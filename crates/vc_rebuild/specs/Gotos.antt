-- Whether gotos stand in statements.
use Rattle.std.specs.Prelude.{Bool, true, false, ◌||◌, List, Option, Some, None}
use Rattle.std.specs.List.{list_any}
use Rattle.bpl_model.specs.Module.{Stmt, assert, assume, havoc, assign, call, if_else, while, break, return, goto, labelled, Stmts, no_stmts, stmt, Proc}

abbrev mutual
  pub has_goto : Stmt → Bool
  has_goto (assert mark E) = false
  has_goto (assume at E) = false
  has_goto (havoc at xs) = false
  has_goto (assign at ps) = false
  has_goto (call at q es xs) = false
  has_goto (if_else at has_else g ss ts) = have_goto ss || have_goto ts
  has_goto (while at g is ss) = have_goto ss
  has_goto (break at l) = false
  has_goto (return at) = false
  has_goto (goto at ls) = true
  has_goto (labelled ls s) = has_goto s

  pub have_goto : Stmts → Bool
  have_goto no_stmts = false
  have_goto (stmt s ss) = has_goto s || have_goto ss

abbrev pub body_has_goto : Option Stmts → Bool
body_has_goto None = false
body_has_goto (Some ss) = have_goto ss

abbrev pub some_goto : List Proc → Bool
some_goto ps = list_any (λ (p : Proc). body_has_goto p.body) ps
