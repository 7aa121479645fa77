-- A session after a program got declarations in the places of others, or stayed as it was.
use Rattle.std.proofs.Common.{◌≡◌, refl, sym, ap, subst, ℕ, ◌+◌, List, Ok}
use Rattle.bpl_ast.specs.Statement.{Decl}
use Rattle.vc_build.specs.Rebuild.{built, rebuilt}
use Rattle.request_text.specs.Request.{Request, Reply}
use Rattle.goal_board.specs.Calls.{Board, BoardCall}
use Rattle.program_edits.specs.Edited.{edited, IsEdited}
use Rattle.edit_session.specs.Program.{IsModuleOf}
use Rattle.edit_session.specs.Asking.{Taken, taken, judged}
use Rattle.edit_session.specs.Kept.{IsReady, IsAnswered}
use Rattle.edit_session.specs.Told.{IsOpened, IsUndone, IsUnchanged}
use Rattle.edit_session.proofs.Programs.{edited_asks}
use Rattle.edit_session.proofs.Sessions.{session, opened_goes}
use Rattle.edit_session.proofs.Unchanged.{still_ready}

-- this program takes the place of that one on the board
module _ (turns workers : ℕ) (old new : Taken) (v : ℕ) (b : Board) (n : List BoardCall) (t : Board) (n' : List BoardCall) where
  pub put_goes : (x : Reply) (ds : List Decl) → b.version ≡ v → IsModuleOf old.decls old.typed → new.decls ≡ ds → IsModuleOf new.decls new.typed
      → IsOpened workers b n t n' turns (rebuilt (built old.typed) new.typed) new.typed x → (r : Request) → IsEdited old.decls r (edited ds)
      → IsAnswered (session turns workers old.decls v b n) (Ok r) x (session turns workers new.decls (v + 1) t n')
  put_goes x ds version was same is put r edit =
      opened_goes turns workers (rebuilt (built old.typed) new.typed) new v b n t n' x version put old.decls r old.typed was refl
      (edited_asks old.decls new.decls r (taken new) (subst (λ (es : List Decl). IsEdited old.decls r (edited es)) (sym same) edit) (ap (judged new.decls) is))

  -- nothing is put
  pub unput_same : new ≡ old → IsUndone workers b n t n' → IsUnchanged (session turns workers old.decls v b n) (session turns workers new.decls v t n')
  unput_same same undone = record { is = λ i. session turns workers (same i).decls v t n'; undone = undone }

  pub unput_ready : IsReady turns v old.typed b → new ≡ old → IsUndone workers b n t n' → IsReady turns v new.typed t
  unput_ready ready same undone = subst (λ (p : Taken). IsReady turns v p.typed t) (sym same) (still_ready turns workers v old.typed b t n n' ready undone)
