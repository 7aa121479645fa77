-- What a run of a command does: what it reads, what it writes, which calls it makes on a board that it shares with workers, with which status it ends and why, and what its answer is worth.
use Rattle.std.specs.Prelude.{◌≡◌, ◌≢◌, ◌⊎◌, ℕ, List, Option}
use Rattle.bv_base.specs.Known.{Adds, HasRisen}
use Rattle.command_words.specs.declared.command.Command.{Command}
use Rattle.command_words.specs.declared.command.Mode.{Mode}
use Rattle.command_words.specs.declared.command.Mode.TheVariants.{Check, Serve, Recheck, Gen, Smoke}
use Rattle.goal_board.specs.Calls.{BoardCall}
use Rattle.edit_session.specs.Served.{IsWithin as IsWithinSession}
use Rattle.edit_server.specs.Generated.{IsStarvedBy}
use Rattle.text_answers.specs.Exit.{IsAnswering, IsSilent}
use Rattle.text_answers.specs.Answered.{Answered, Broken, IsFull, IsShort, IsWithin, WroteFront}
use Rattle.edit_server.specs.Run.{BrokenSummary, Generated, usage_line}
use Rattle.edit_server.specs.Session.{Served, IsSessionShort}
use Rattle.edit_server.specs.SessionWorth.{SessionWorth}
use Rattle.edit_server.specs.SummaryWorth.{SummaryWorth}
use Rattle.text_answers.specs.declared.status.Status.{Status}
use Rattle.text_answers.specs.declared.status.Status.TheVariants.{Done, NotAll, Usage, ReadFault, WriteFault, Memory, Refused, SessionFull}

-- what is left to read and what is held, where that is told, and how many faults there were
pub record Outside : Type 0 where
  pub left : Option (List ℕ)
  pub read_faults : ℕ
  pub held : Option (List ℕ)
  pub write_faults : ℕ

-- of a source and a sink
abbrev pub outside : {X Y : Type 0} → (X → Option (List ℕ)) → (X → ℕ) → (Y → Option (List ℕ)) → (Y → ℕ) → X → Y → Outside
outside left read_faults held write_faults source sink = record { left = left source; read_faults = read_faults source; held = held sink; write_faults = write_faults sink }

-- faults come only where a count rose, and else it is that before
pub record TellsFaults (s t : Outside) (status : Status) : Type 0 where
  pub read_fault : status ≡ ReadFault → HasRisen s.read_faults t.read_faults
  pub read_quiet : ¬ (status ≡ ReadFault) → t.read_faults ≡ s.read_faults
  pub write_fault : status ≡ WriteFault → HasRisen s.write_faults t.write_faults
  pub write_quiet : ¬ (status ≡ WriteFault) → t.write_faults ≡ s.write_faults

module _ (command : Command) (calls : List BoardCall) (s t : Outside) (status : Status) where
  -- one text, the whole input, is answered
  pub record AnswersText : Type 0 where
    pub answered : IsAnswering status → Answered command s.left t.left s.held t.held status
    pub silent : IsSilent status → t.held ≡ s.held
    pub front : status ≡ WriteFault → Broken command s.left t.left s.held t.held
    pub full : status ≡ SessionFull → IsFull s.left t.left
    pub within : ¬ (status ≡ SessionFull) → IsWithin s.left t.left
    pub complete : ¬ HasRisen s.read_faults t.read_faults → ¬ HasRisen s.write_faults t.write_faults → IsShort s.left → IsAnswering status ⊎ (status ≡ Memory)

  -- nothing is read, and a generated program is summed up
  pub record Generates : Type 0 where
    pub generated : IsAnswering status → Generated command calls s.held t.held status
    pub silent : IsSilent status → t.held ≡ s.held
    pub front : status ≡ WriteFault → BrokenSummary command calls s.held t.held
    pub starved : status ≡ Memory → command.workers ≢ 0 → IsStarvedBy command.turns calls
    -- where each goal is proved, the program's procedures are safe
    pub worth : SummaryWorth command.seed command.size status
    pub unread : t.left ≡ s.left
    pub never_reads : ¬ (status ≡ ReadFault)
    pub never_full : ¬ (status ≡ SessionFull)
    pub complete : ¬ HasRisen s.write_faults t.write_faults → IsAnswering status ⊎ (status ≡ Memory)

  -- the lines of the input are answered, one by one
  pub record ServesLines : Type 0 where
    pub served : Served command.turns command.workers calls s.left t.left s.held t.held status
    -- of each report: the declarations that are open then are a program, and what it calls correct is safe
    pub worth : SessionWorth s.left s.held t.held
    pub within : ¬ (status ≡ SessionFull) → IsWithinSession s.left t.left
    pub complete : ¬ HasRisen s.read_faults t.read_faults → ¬ HasRisen s.write_faults t.write_faults → IsSessionShort s.left → (status ≡ Done) ⊎ (status ≡ Memory)

  abbrev pub Does : Mode → Type 0
  Does Check = AnswersText
  Does Serve = ServesLines
  Does Recheck = AnswersText
  Does Gen = Generates
  Does Smoke = AnswersText

  pub record Ran : Type 0 where
    pub does : Does command.mode
    pub never_usage : ¬ (status ≡ Usage)
    pub faults : TellsFaults s t status

-- words that are no command are refused
pub record Refuses (s t : Outside) (status : Status) : Type 0 where
  pub answer : (status ≡ Usage) ⊎ (status ≡ WriteFault) ⊎ (status ≡ Memory)
  pub line : status ≡ Usage → Adds s.held t.held usage_line
  pub front : status ≡ WriteFault → WroteFront s.held t.held usage_line
  pub silent : status ≡ Memory → t.held ≡ s.held
  pub faults : TellsFaults s t status
