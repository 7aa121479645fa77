-- What is written where the whole input is answered, by what its source has left and its sink holds before and after, where they tell it.
use Rattle.std.specs.Prelude.{◌≡◌, ℕ, ◌+◌, ◌<◌, ◌≤◌, List, length, take, Option, Some, None}
use Rattle.bv_base.specs.Known.{Takes, Adds, IsEnd}
use Rattle.command_words.specs.declared.command.Command.{Command}
use Rattle.text_answers.specs.Answer.{IsAnswerOf}
use Rattle.text_answers.specs.Worth.{IsWorth}
use Rattle.text_answers.specs.Limits.{program_total}
use Rattle.text_answers.specs.declared.status.Status.{Status}

-- the command's answer to a text: exactly which it is, and what it is worth
pub record IsAnswer (command : Command) (text written : List ℕ) (status : Status) : Type 0 where
  pub defined : IsAnswerOf command.mode command.turns text written status
  pub worth : IsWorth command.mode text written status

-- the input was read to its end, and the command's answer to it was written
pub record Answered (command : Command) (left left' held held' : Option (List ℕ)) (status : Status) : Type 0 where
  pub text : List ℕ
  pub written : List ℕ
  pub taken : Takes left left' text
  pub to_the_end : IsEnd left'
  pub short : length text ≤ program_total
  pub added : Adds held held' written
  pub is_answer : IsAnswer command text written status

-- the total was taken, and a further byte was read
abbrev pub IsFull : Option (List ℕ) → Option (List ℕ) → Type 0
IsFull left left' = (taken : List ℕ) × (length taken ≡ program_total + 1) × Takes left left' taken

-- no more than the total was taken
abbrev pub IsWithin : Option (List ℕ) → Option (List ℕ) → Type 0
IsWithin left left' = (taken : List ℕ) × (length taken ≤ program_total) × Takes left left' taken

-- it is told what is left, and that is no more than the total
abbrev pub IsShort : Option (List ℕ) → Type 0
IsShort None = ⊥
IsShort (Some bytes) = length bytes ≤ program_total

-- some front of what was to be written was written
abbrev pub WroteFront : Option (List ℕ) → Option (List ℕ) → List ℕ → Type 0
WroteFront held held' written = (n : ℕ) × (n < length written) × Adds held held' (take n written)

-- the input was read to its end, and a front of the command's answer to it was written
pub record Broken (command : Command) (left left' held held' : Option (List ℕ)) : Type 0 where
  pub text : List ℕ
  pub written : List ℕ
  pub status : Status
  pub taken : Takes left left' text
  pub to_the_end : IsEnd left'
  pub short : length text ≤ program_total
  pub front : WroteFront held held' written
  pub is_answer : IsAnswer command text written status
