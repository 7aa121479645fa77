-- What calls on the board have done, and what is told of them.
use Rattle.std.proofs.Common.{◌≡◌, ◌∙◌, sym, ap, subst, ℕ, ◌+◌, IsTrue, List, [], ◌∷◌, map, length}
use Rattle.std.proofs.lemmas.List.{length-map}
use Rattle.bpl_model.specs.Module.{Module}
use Rattle.obligation_text.specs.Asked.{Asked, key_of}
use Rattle.vc_build.specs.Large.{program_goals}
use Rattle.vc_build.specs.Rebuild.{BuiltProc}
use Rattle.tableau.specs.Settled.{Settled, settled_by}
use Rattle.request_text.specs.Request.{accepted, reported, proved}
use Rattle.board_core.specs.Board.{open_keys, opened}
use Rattle.goal_board.specs.Calls.{Board, BoardCall, made, all_kept}
use Rattle.goal_board.specs.Made.{AreMade, AreSettled}
use Rattle.goal_board.proofs.Gathering.{opens_tell_version}
use Rattle.program_opening.specs.ProcGoals.{goals_by_proc}
use Rattle.report_laws.specs.Scratch.{lines_on}
use Rattle.report_laws.proofs.Mapped.{map_map}
use Rattle.edit_session.specs.Program.{question, questions, keys, text_or_none}
use Rattle.edit_session.specs.Built.{proc_goals}
use Rattle.edit_session.specs.Told.{IsOpened, IsReported, AreProved}
use Rattle.edit_session.proofs.Parts.{proofs_by_question}

module _ (workers : ℕ) (s : Board) (n : List BoardCall) (t : Board) (n' : List BoardCall) (turns : ℕ) (m : Module) where
  pub opened_told : (new : ℕ) (qs : List Asked) (goals v done : ℕ) → qs ≡ questions turns m → goals ≡ length qs
      → AreMade workers s n t n' (made (open_keys (map key_of qs)) (opened v done) ∷ []) → IsOpened workers s n t n' turns new m (accepted goals new v)
  opened_told new qs goals v done same many made_so =
      let count : goals ≡ length (program_goals m) = many ∙ ap length same ∙ length-map (program_goals m) (question turns) in
      let version : v ≡ s.version + 1 = opens_tell_version workers s t (map key_of qs) v done made_so.between in
      record {
        answer = opened v done;
        are = subst (λ zs. AreMade workers s n t n' (made (open_keys (map key_of zs)) (opened v done) ∷ [])) same made_so;
        told = λ i. accepted (count i) new (version i);
      }

  pub reported_told : (bs : List BuiltProc) (these : List Settled) (lines : List (List ℕ)) (version : ℕ) → AreSettled workers s n t n' these → IsTrue (all_kept t) → these ≡ map settled_by (questions turns m)
      → map proc_goals bs ≡ goals_by_proc m → lines ≡ lines_on turns (map proc_goals bs) → IsReported workers s n t n' turns version m (reported lines version)
  reported_told bs these lines version settled kept right procs same = record {
    gathered = record { answers = these; settled = settled; kept = kept; right = right };
    told = λ i. reported ((same ∙ ap (lines_on turns) procs) i) version;
  }

  pub proved_told : {X : Type 0} (value : X → Settled) (xs : List X) (lines : List (List ℕ)) (version : ℕ) → AreSettled workers s n t n' (map value xs) → IsTrue (all_kept t) → map value xs ≡ map settled_by (questions turns m)
      → lines ≡ map (λ x. text_or_none (value x).found) xs → AreProved workers s n t n' turns version m (proved lines version)
  proved_told value xs lines version settled kept right same = record {
    gathered = record { answers = map value xs; settled = settled; kept = kept; right = right };
    told = λ i. proved ((same ∙ proofs_by_question value turns (questions turns m) xs right) i) version;
  }
