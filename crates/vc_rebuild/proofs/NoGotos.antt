-- Where the test finds no goto, there is none.
use Rattle.std.specs.Prelude.{◌≡◌, false, List, [], ◌∷◌, Option, Some, None}
use Rattle.logic_core.proofs.Booleans.{neither}
use Rattle.bpl_model.specs.Module.{Stmt, assert, assume, havoc, assign, call, if_else, while, break, return, goto, labelled, Stmts, no_stmts, stmt, Proc, Module}
use Rattle.bpl_model.specs.NoGoto.{HasNoGoto, HaveNoGoto, BodyHasNoGoto}
use Rattle.bpl_goto.specs.Removed.{remove_gotos}
use Rattle.bpl_goto.specs.Kept.{NothingRemoved}
use Rattle.vc_rebuild.specs.Gotos.{has_goto, have_goto, body_has_goto, some_goto}
use Rattle.vc_rebuild.specs.Inside as inside

mutual
  none_in_stmt : (s : Stmt) → has_goto s ≡ false → HasNoGoto s
  none_in_stmt (assert mark E) h = tt
  none_in_stmt (assume at E) h = tt
  none_in_stmt (havoc at xs) h = tt
  none_in_stmt (assign at ps) h = tt
  none_in_stmt (call at q es xs) h = tt
  none_in_stmt (if_else at has_else g ss ts) h = let p = neither (have_goto ss) (have_goto ts) h in (none_in_list ss p.0, none_in_list ts p.1)
  none_in_stmt (while at g is ss) h = none_in_list ss h
  none_in_stmt (break at l) h = tt
  none_in_stmt (return at) h = tt
  none_in_stmt (goto at ls) h = absurd (cc)
  none_in_stmt (labelled ls s) h = none_in_stmt s h

  none_in_list : (ss : Stmts) → have_goto ss ≡ false → HaveNoGoto ss
  none_in_list no_stmts h = tt
  none_in_list (stmt s ss) h = let p = neither (has_goto s) (have_goto ss) h in (none_in_stmt s p.0, none_in_list ss p.1)

none_in_body : (b : Option Stmts) → body_has_goto b ≡ false → BodyHasNoGoto b
none_in_body None h = tt
none_in_body (Some ss) h = none_in_list ss h

none_in_procs : (ps : List Proc) → some_goto ps ≡ false → inside.HaveNoGoto ps
none_in_procs [] h = tt
none_in_procs (p ∷ ps) h = let q = neither (body_has_goto p.body) (some_goto ps) h in (none_in_body p.body q.0, none_in_procs ps q.1)

-- so nothing is removed
pub nothing_in : NothingRemoved → (m : Module) → some_goto m.procs ≡ false → remove_gotos m ≡ m
nothing_in law m h = law m (none_in_procs m.procs h)
