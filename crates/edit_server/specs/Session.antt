-- What a run of the mode that serves a session is, by its status: which lines of its input are answered, what is written, by which calls on a board that is shared with workers, and what the reports are worth.
use Rattle.std.specs.Prelude.{ℕ, ◌≤◌, List, length, Option, Some, None}
use Rattle.goal_board.specs.Calls.{BoardCall}
use Rattle.line_server.specs.declared.serving.Ending.{Ending}
use Rattle.line_server.specs.declared.serving.Ending.TheVariants as ending
use Rattle.edit_session.specs.Served.{AnswersAll, AnswersWhole, Exceeds, Breaks, Starves}
use Rattle.edit_session.specs.SessionLimits.{session_total}
use Rattle.text_answers.specs.declared.status.Status.{Status}
use Rattle.text_answers.specs.declared.status.Status.TheVariants.{Done, NotAll, Usage, ReadFault, WriteFault, Memory, Refused, SessionFull}

-- a session that ends is neither refused nor judged by its goals
abbrev pub Served : ℕ → ℕ → List BoardCall → Option (List ℕ) → Option (List ℕ) → Option (List ℕ) → Option (List ℕ) → Status → Type 0
Served turns workers calls left left' held held' Done = AnswersAll turns workers calls left left' held held'
Served turns workers calls left left' held held' NotAll = ⊥
Served turns workers calls left left' held held' Usage = ⊥
Served turns workers calls left left' held held' ReadFault = AnswersWhole turns workers calls left left' held held'
Served turns workers calls left left' held held' WriteFault = Breaks turns workers calls left left' held held'
Served turns workers calls left left' held held' Memory = Starves turns workers calls left left' held held'
Served turns workers calls left left' held held' Refused = ⊥
Served turns workers calls left left' held held' SessionFull = Exceeds turns workers calls left left' held held'

-- it is told what is left, and that is no more than a session takes
abbrev pub IsSessionShort : Option (List ℕ) → Type 0
IsSessionShort None = ⊥
IsSessionShort (Some bytes) = length bytes ≤ session_total

-- the status of each way in which a session ends
abbrev pub status_of : Ending → Status
status_of ending.Done = Done
status_of ending.ReadFault = ReadFault
status_of ending.WriteFault = WriteFault
status_of ending.Memory = Memory
status_of ending.Full = SessionFull
