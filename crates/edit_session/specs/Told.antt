-- What is done on the board for a line, and the reply that tells it.
use Rattle.std.specs.Prelude.{◌≡◌, ℕ, ◌+◌, IsTrue, List, [], ◌∷◌, map, length}
use Rattle.bpl_model.specs.Module.{Module}
use Rattle.tableau.specs.Settled.{Settled, settled_by}
use Rattle.vc_build.specs.Large.{program_goals}
use Rattle.board_core.specs.Board.{open_keys}
use Rattle.board_core.specs.Board as board
use Rattle.goal_board.specs.Calls.{Board, BoardCall, made, all_kept}
use Rattle.goal_board.specs.Made.{AreMade, AreSettled}
use Rattle.request_text.specs.Request.{Reply, accepted, reported, proved}
use Rattle.report_laws.specs.Scratch.{scratch}
use Rattle.edit_session.specs.Program.{questions, keys, proof_lines}
use Rattle.edit_session.specs.OwnCalls.{AreRefused}
use Rattle.edit_session.specs.Kept.{Session}

module _ (workers : ℕ) (s : Board) (noted : List BoardCall) (t : Board) (noted' : List BoardCall) where
  -- the goals of the module are opened, and so many of its procedures are new
  pub record IsOpened (turns new : ℕ) (m : Module) (x : Reply) : Type 0 where
    pub answer : board.Reply Settled
    pub are : AreMade workers s noted t noted' (made (open_keys (keys turns m)) answer ∷ [])
    pub told : x ≡ accepted (length (program_goals m)) new (s.version + 1)

  -- nothing is done, but for calls for which there was no memory
  pub record IsUndone : Type 0 where
    pub calls : List BoardCall
    pub are : AreMade workers s noted t noted' calls
    pub refused : AreRefused calls

  -- the goals of the module are settled, and then shown; these are the search's answers
  pub record AreGathered (turns : ℕ) (m : Module) : Type 0 where
    pub answers : List Settled
    pub settled : AreSettled workers s noted t noted' answers
    pub kept : IsTrue (all_kept t)
    pub right : answers ≡ map settled_by (questions turns m)

  -- and the report is told, with this version
  pub record IsReported (turns version : ℕ) (m : Module) (x : Reply) : Type 0 where
    pub gathered : AreGathered turns m
    pub told : x ≡ reported (scratch turns m) version

  -- or the proofs are
  pub record AreProved (turns version : ℕ) (m : Module) (x : Reply) : Type 0 where
    pub gathered : AreGathered turns m
    pub told : x ≡ proved (proof_lines turns m) version

-- the session with this board, and these calls
abbrev pub moved : Session → Board → List BoardCall → Session
moved s b noted = record { turns = s.turns; workers = s.workers; state = record { decls = (s.state).decls; version = (s.state).version; board = b }; noted = noted }

-- all is as it was, but for calls for which there was no memory
pub record IsUnchanged (s t : Session) : Type 0 where
  pub is : t ≡ moved s (t.state).board t.noted
  pub undone : IsUndone s.workers (s.state).board s.noted (t.state).board t.noted
