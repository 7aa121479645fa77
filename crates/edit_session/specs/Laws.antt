-- What follows for lines from what was done on the board, whatever others did there; and for a session from its lines.
use Rattle.std.specs.Prelude.{◌≡◌, ◌≢◌, ℕ, ◌+◌, Bool, IsTrue, List, [], ◌∷◌, ◌++◌, map, length, Ok}
use Rattle.bpl_model.specs.Module.{Module}
use Rattle.tableau.specs.Settled.{Settled, settled_by}
use Rattle.vc_build.specs.Large.{program_goals}
use Rattle.vc_build.specs.Rebuild.{built, rebuilt}
use Rattle.request_text.specs.Request.{Request, status, report, proofs, accepted, counted, reported, proved, ended, memory}
use Rattle.board_core.specs.Board.{open_keys, look, looked}
use Rattle.board_core.specs.Board as board
use Rattle.goal_board.specs.Calls.{BoardCall, made, all_kept}
use Rattle.goal_board.specs.Made.{AreMade, AreSettled, AreWork}
use Rattle.report_laws.specs.Scratch.{scratch}
use Rattle.edit_session.specs.AnswerLines.{lines_by, texts_by}
use Rattle.edit_session.specs.Program.{IsModuleOf, questions, keys}
use Rattle.edit_session.specs.Asking.{Taken, taken, Asks}
use Rattle.edit_session.specs.Answers.{State, NeedsAnswers}
use Rattle.edit_session.specs.Session.{Exchange, SessionFrom}
use Rattle.edit_session.specs.OwnCalls.{SessionCalls, AreRefused}
use Rattle.edit_session.specs.Kept.{Session, IsAnswered}

-- the same declarations, version and settings
pub record IsSameProgram (s t : Session) : Type 0 where
  pub turns : t.turns ≡ s.turns
  pub workers : t.workers ≡ s.workers
  pub decls : t.state.decls ≡ s.state.decls
  pub version : t.state.version ≡ s.state.version

abbrev pub Done : Session → Session → List BoardCall → Type 0
Done s t calls = AreMade s.workers s.state.board s.noted t.state.board t.noted calls

-- a status is the look's
abbrev pub LooksAnswerStatus : Type 0
LooksAnswerStatus = (s t : Session) (v done pending : ℕ) (closed : Bool) → IsSameProgram s t → Done s t (made look (looked v done pending closed) ∷ [])
    → IsAnswered s (Ok status) (counted done pending s.state.version) t

-- a report that is made of the answers that were gathered is the report from scratch, whatever others did
abbrev pub GatheredAnswerReports : Type 0
GatheredAnswerReports = (s t : Session) (m : Module) (answers : List Settled) → IsSameProgram s t → IsModuleOf s.state.decls m
    → AreSettled s.workers s.state.board s.noted t.state.board t.noted answers → IsTrue (all_kept t.state.board) → answers ≡ map settled_by (questions s.turns m)
    → (lines_by m answers ≡ scratch s.turns m) × IsAnswered s (Ok report) (reported (lines_by m answers) s.state.version) t

abbrev pub GatheredAnswerProofs : Type 0
GatheredAnswerProofs = (s t : Session) (m : Module) (answers : List Settled) → IsSameProgram s t → IsModuleOf s.state.decls m
    → AreSettled s.workers s.state.board s.noted t.state.board t.noted answers → IsTrue (all_kept t.state.board) → answers ≡ map settled_by (questions s.turns m)
    → IsAnswered s (Ok proofs) (proved (texts_by answers) s.state.version) t

-- an open, also behind opens for which there was no memory
abbrev pub OpensAnswerChanges : Type 0
OpensAnswerChanges = (s t : Session) (r : Request) (m : Module) (p : Taken) (o : board.Reply Settled) (before : List BoardCall) → IsModuleOf s.state.decls m → Asks s.state.decls r (taken p)
    → t.turns ≡ s.turns → t.workers ≡ s.workers → t.state.decls ≡ p.decls → t.state.version ≡ s.state.version + 1 → AreRefused before → Done s t (before ++ made (open_keys (keys s.turns p.typed)) o ∷ [])
    → IsAnswered s (Ok r) (accepted (length (program_goals p.typed)) (rebuilt (built m) p.typed) (s.state.version + 1)) t

-- want of memory
abbrev pub WorkAnswersMemory : Type 0
WorkAnswersMemory = (s t : Session) (r : Request) → NeedsAnswers r → IsSameProgram s t → AreWork s.workers s.state.board s.noted t.state.board t.noted → IsAnswered s (Ok r) memory t

-- whether there are workers is all that matters
abbrev pub SessionsOfAnyWorkers : Type 0
SessionsOfAnyWorkers = (turns v w : ℕ) (s : State) (xs : List Exchange) → w ≢ 0 → SessionFrom turns v s xs → SessionFrom turns w s xs

-- lines that were answered, one after another, up to a quit
pub data AreAnswered : Session → List Exchange → Session → Type 0 where
  none : {s : Session} → AreAnswered s [] s
  last : {s t : Session} (x : Exchange) → IsAnswered s x.asked x.reply t → x.after ≡ t.state → x.reply ≡ ended → AreAnswered s (x ∷ []) t
  more : {s t u : Session} {xs : List Exchange} (x : Exchange) → IsAnswered s x.asked x.reply t → x.after ≡ t.state → t.turns ≡ s.turns → t.workers ≡ s.workers → x.reply ≢ ended
      → AreAnswered t xs u → AreAnswered s (x ∷ xs) u

-- they are a session, and its calls are the lines' calls, one line's after another's
pub record AreSession (s : Session) (xs : List Exchange) (t : Session) : Type 0 where
  pub session : SessionFrom s.turns s.workers s.state xs
  pub calls : s.workers ≢ 0 → (own : List BoardCall) × (t.noted ≡ s.noted ++ own) × SessionCalls s.turns s.state.decls xs own

abbrev pub AnsweredAreSession : Type 0
AnsweredAreSession = (s t : Session) (xs : List Exchange) → AreAnswered s xs t → AreSession s xs t
