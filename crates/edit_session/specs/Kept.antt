-- What a session keeps between two lines.
use Rattle.std.specs.Prelude.{◌≡◌, ◌≢◌, ℕ, ◌+◌, ◌-◌, ◌^◌, ◌<◌, ◌≤◌, false, List, ◌++◌}
use Rattle.bpl_model.specs.Module.{Module}
use Rattle.vc_build.specs.Large.{count_limit}
use Rattle.vc_build.specs.Rebuild.{built}
use Rattle.vc_rebuild.specs.Kept.{Program}
use Rattle.canonical_text.specs.RoundTrip.{AreWrittenDecls}
use Rattle.fault_text.specs.FaultView.{SourcesAreShort}
use Rattle.request_text.specs.Request.{Reply}
use Rattle.goal_board.specs.Calls.{Board, BoardCall}
use Rattle.edit_session.specs.Program.{IsModuleOf, keys}
use Rattle.edit_session.specs.Asking.{Taken}
use Rattle.edit_session.specs.Answers.{Asked, State, Line}
use Rattle.edit_session.specs.OwnCalls.{LineCalls}

-- the declarations have no fault, the module is theirs, and what was built is built of it; tokens spell each declaration, which has its own name
pub record IsOpen (p : Taken) (b : Program) : Type 0 where
  pub short : SourcesAreShort p.decls
  pub written : AreWrittenDecls 0 p.decls
  pub is_module : IsModuleOf p.decls p.typed
  pub built : b.procs ≡ built p.typed

-- a session with its turns, whether there are workers, and its own calls on the board that it shares with them
pub record Session : Type 0 where
  pub turns : ℕ
  pub workers : ℕ
  pub state : State
  pub noted : List BoardCall

-- the board has the goals of the module, with the session's turns, and isn't closed; the version is the session's
pub record IsReady (turns number : ℕ) (m : Module) (s : Board) : Type 0 where
  pub goals : s.present ≡ keys turns m
  pub version : s.version ≡ number
  pub unclosed : s.closed ≡ false

-- one line later: the turns are the same, the version is one higher at most; and, alone, no goal was claimed twice
pub record IsLater (s t : Session) : Type 0 where
  pub turns : t.turns ≡ s.turns
  pub workers : t.workers ≡ s.workers
  pub version : t.state.version ≤ s.state.version + 1
  pub claims : s.workers ≡ 0 → t.state.board.next ≤ s.state.board.next + count_limit

-- there are versions for one more line; and, alone, claims
pub record HasRoom (s : Session) : Type 0 where
  pub version : s.state.version < 2 ^ 64 - 1
  pub claims : s.workers ≡ 0 → s.state.board.next + count_limit < 2 ^ 64 - 1

-- a line was answered so, by these calls
pub record IsAnswered (s : Session) (r : Asked) (x : Reply) (t : Session) : Type 0 where
  pub line : Line s.turns s.workers s.state r x t.state
  pub calls : s.workers ≢ 0 → (own : List BoardCall) × (t.noted ≡ s.noted ++ own) × LineCalls s.turns s.state.decls r x own
