-- What a session over the lines of an input is: which lines are answered, what is written, which calls it makes on a shared board, and what the reports are worth; by what the source has left and the sink holds before and after, where they tell it.
use Rattle.std.specs.Prelude.{◌≡◌, ◌≢◌, ◌↔◌, ℕ, ◌+◌, ◌≤◌, ◌<◌, Bool, false, IsTrue, List, [], ◌∷◌, ◌++◌, map, length, take, Option, IfSome}
use Rattle.std.specs.List.{AllByRecursion, concat}
use Rattle.bv_base.specs.Known.{Takes, Adds}
use Rattle.request_text.specs.Reading.{request_of}
use Rattle.request_text.specs.Replies.{reply_text}
use Rattle.board_core.specs.Board.{close, closed_now}
use Rattle.goal_board.specs.Calls.{BoardCall, made}
use Rattle.line_server.specs.Exchanges.{asked, ended_lines}
use Rattle.line_server.specs.Endings.{AreFirst, IsServed, AreWhole, TakesWithin}
use Rattle.line_server.specs.declared.serving.Ending.{Ending}
use Rattle.line_server.specs.declared.serving.Ending.TheVariants.{Done, ReadFault, WriteFault, Memory, Full}
use Rattle.edit_session.specs.Session.{Exchange, WholeSession}
use Rattle.edit_session.specs.OwnCalls.{SessionCalls}
use Rattle.edit_session.specs.Worth.{ReportIsTrue}
use Rattle.edit_session.specs.LineLaws.{EndsWithQuit}
use Rattle.edit_session.specs.SessionLimits.{session_total}

-- no more than the total was taken
abbrev pub IsWithin : Option (List ℕ) → Option (List ℕ) → Type 0
IsWithin left left' = TakesWithin session_total left left'

-- the calls of these lines, one line's after another's, and then one close
abbrev pub Makes : ℕ → List Exchange → List BoardCall → Type 0
Makes turns xs calls = (own : List BoardCall) × SessionCalls turns [] xs own × (calls ≡ own ++ made close closed_now ∷ [])

-- A session over these lines, whose replies have these texts, one by one; it ends with a quit, or not. Where there are workers, the calls are those of its lines, and of a further one that has no reply, if there is one
pub record IsSession (turns workers : ℕ) (calls : List BoardCall) (lines replies : List (List ℕ)) (quits : Bool) (unwritten : List Exchange) : Type 0 where
  pub exchanges : List Exchange
  pub session : WholeSession turns workers exchanges
  pub made : workers ≢ 0 → Makes turns (exchanges ++ unwritten) calls
  pub asked : map (λ x. x.asked) exchanges ≡ map request_of lines
  pub written : map (λ x. reply_text x.reply) exchanges ≡ replies
  pub ends : IsTrue quits ↔ EndsWithQuit exchanges
  -- each report is the report from scratch of the program that is open then, and what it calls correct is safe
  pub reports : AllByRecursion (ReportIsTrue turns) exchanges

-- none, or one for the line behind these, for whose reply there was no memory
pub data IsUnwritten (left : Option (List ℕ)) (lines : List (List ℕ)) : List Exchange → Type 0 where
  no_line : IsUnwritten left lines []
  next_line : (line : List ℕ) (x : Exchange) → x.asked ≡ request_of line → AreFirst left (lines ++ line ∷ []) → IsUnwritten left lines (x ∷ [])

module _ (turns workers : ℕ) (calls : List BoardCall) (left left' held held' : Option (List ℕ)) where
  -- every line is answered, up to the end of the input or to a quit
  pub record AnswersAll : Type 0 where
    pub lines : List (List ℕ)
    pub replies : List (List ℕ)
    pub quits : Bool
    pub session : IsSession turns workers calls lines replies quits []
    pub served : IsServed quits left left' lines
    pub added : Adds held held' (concat replies)

  -- every whole line of what was taken is answered
  pub record AnswersWhole : Type 0 where
    pub lines : List (List ℕ)
    pub replies : List (List ℕ)
    pub session : IsSession turns workers calls lines replies false []
    pub taken : List ℕ
    pub takes : Takes left left' taken
    pub within : length taken ≤ session_total
    pub whole : IfSome left (λ _. AreWhole taken left' lines)
    pub added : Adds held held' (concat replies)

  -- the total was taken, and a further byte; every line that ended within the total is answered
  pub record Exceeds : Type 0 where
    pub lines : List (List ℕ)
    pub replies : List (List ℕ)
    pub session : IsSession turns workers calls lines replies false []
    pub taken : List ℕ
    pub takes : Takes left left' taken
    pub further : length taken ≡ session_total + 1
    pub whole : IfSome left (λ _. asked (ended_lines (take session_total taken)) ≡ lines)
    pub added : Adds held held' (concat replies)

  -- the first lines are answered, and of the last reply a front was written, and not all
  pub record Breaks : Type 0 where
    pub lines : List (List ℕ)
    pub replies : List (List ℕ)
    pub broken : List ℕ
    pub quits : Bool
    pub session : IsSession turns workers calls lines (replies ++ broken ∷ []) quits []
    pub first : AreFirst left lines
    pub written_of : ℕ
    pub short : written_of < length broken
    pub added : Adds held held' (concat replies ++ take written_of broken)

  -- the first lines are answered; and then there was no memory for a line, or for the reply to it
  pub record Starves : Type 0 where
    pub lines : List (List ℕ)
    pub replies : List (List ℕ)
    pub unwritten : List Exchange
    pub is_unwritten : IsUnwritten left lines unwritten
    pub session : IsSession turns workers calls lines replies false unwritten
    pub first : AreFirst left lines
    pub added : Adds held held' (concat replies)

  abbrev pub Serves : Ending → Type 0
  Serves Done = AnswersAll
  Serves ReadFault = AnswersWhole
  Serves WriteFault = Breaks
  Serves Memory = Starves
  Serves Full = Exceeds

-- where nothing was read, and there was no memory for more, the one call is the close
abbrev pub NothingIsServed : Type 0
NothingIsServed = (turns workers : ℕ) (left held : Option (List ℕ)) → Serves turns workers (made close closed_now ∷ []) left left held held Memory

-- how many workers there are makes no difference, where there are some
abbrev pub ServesAnyWorkers : Type 0
ServesAnyWorkers = (turns v w : ℕ) (calls : List BoardCall) (left left' held held' : Option (List ℕ)) (ending : Ending) → v ≢ 0 → w ≢ 0
    → Serves turns v calls left left' held held' ending → Serves turns w calls left left' held held' ending
