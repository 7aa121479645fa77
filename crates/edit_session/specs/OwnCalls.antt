-- The session's own calls on a board that it shares, line by line, each of them: also those that change nothing.
use Rattle.std.specs.Prelude.{◌≡◌, ℕ, Bool, true, false, IsTrue, List, [], ◌∷◌, ◌++◌, Option, Ok}
use Rattle.std.specs.List.{AllByRecursion}
use Rattle.bpl_ast.specs.Statement.{Decl}
use Rattle.bpl_model.specs.Module.{Module}
use Rattle.tableau.specs.Settled.{Settled}
use Rattle.request_text.specs.Request.{Request, status, report, proofs, Reply, accepted, counted, reported, summed, proved, ended, refused, memory, absent, misnamed, fault}
use Rattle.board_core.specs.Board.{open_keys, look, close, no_memory, looked, closed_now}
use Rattle.board_core.specs.Board as board
use Rattle.goal_board.specs.Calls.{BoardCall, made}
use Rattle.goal_board.specs.Found.{found}
use Rattle.goal_board.specs.Working.{IsGathered, IsWork}
use Rattle.edit_session.specs.AnswerLines.{lines_by, texts_by}
use Rattle.edit_session.specs.Program.{IsModuleOf, keys}
use Rattle.edit_session.specs.Asking.{Taken, taken, Asks}
use Rattle.edit_session.specs.Answers.{Asked}
use Rattle.edit_session.specs.Session.{Exchange}

-- calls for which there was no memory
abbrev pub AreRefused : List BoardCall → Type 0
AreRefused cs = AllByRecursion (λ c. c ≡ made no_memory board.memory) cs

-- replies for which no call is made
abbrev pub makes_none : Reply → Bool
makes_none (accepted g r v) = false
makes_none (counted d p v) = false
makes_none (reported ls v) = false
makes_none (summed ls v) = true
makes_none (proved ls v) = false
makes_none ended = true
makes_none (refused b) = true
makes_none memory = false
makes_none (absent n) = true
makes_none (misnamed n) = true
makes_none (fault k d l c w) = true

-- A line's calls, by its reply, where these declarations are open before it. Behind calls that were refused memory an open is made; a status is one look, whose numbers are the reply's; a report and proofs are made of what one gather shows, with every goal answered
module _ (turns : ℕ) (ds : List Decl) where
  pub data LineCalls : Asked → Reply → List BoardCall → Type 0 where
    of_accepted : {r : Request} {goals new version : ℕ} (before : List BoardCall) (p : Taken) (o : board.Reply Settled) → AreRefused before → Asks ds r (taken p)
        → LineCalls (Ok r) (accepted goals new version) (before ++ made (open_keys (keys turns p.typed)) o ∷ [])
    of_status : {done pending version v : ℕ} {closed : Bool} → LineCalls (Ok status) (counted done pending version) (made look (looked v done pending closed) ∷ [])
    of_report : {own : List BoardCall} {version : ℕ} (m : Module) (shown : List (Option Settled)) → IsModuleOf ds m → IsGathered own shown
        → LineCalls (Ok report) (reported (lines_by m (found shown)) version) own
    of_proofs : {own : List BoardCall} {version : ℕ} (shown : List (Option Settled)) → IsGathered own shown
        → LineCalls (Ok proofs) (proved (texts_by (found shown)) version) own
    of_memory : {r : Asked} {own : List BoardCall} → IsWork own → LineCalls r memory own
    of_others : {r : Asked} {x : Reply} {own : List BoardCall} → IsTrue (makes_none x) → AreRefused own → LineCalls r x own

module _ (turns : ℕ) where
  -- line after line
  pub data SessionCalls : List Decl → List Exchange → List BoardCall → Type 0 where
    no_calls : {ds : List Decl} → SessionCalls ds [] []
    more_calls : {ds : List Decl} {xs : List Exchange} (own rest : List BoardCall) (x : Exchange) → LineCalls turns ds x.asked x.reply own → SessionCalls (x.after).decls xs rest
        → SessionCalls ds (x ∷ xs) (own ++ rest)

  -- the lines' calls, and then a close; the last line may be one whose reply found no memory
  pub data AllCalls : List Exchange → List BoardCall → Type 0 where
    closes : {xs : List Exchange} (own : List BoardCall) → SessionCalls [] xs own → AllCalls xs (own ++ made close closed_now ∷ [])
    starves : {xs : List Exchange} (own : List BoardCall) (unwritten : Exchange) → SessionCalls [] (xs ++ unwritten ∷ []) own → AllCalls xs (own ++ made close closed_now ∷ [])
