-- What a run of the program writes that answers no text, by what its sink holds before and after, where it tells it.
use Rattle.std.specs.Prelude.{◌≢◌, ℕ, List, codes, Option}
use Rattle.bv_base.specs.Known.{Adds}
use Rattle.command_words.specs.declared.command.Command.{Command}
use Rattle.goal_board.specs.Calls.{BoardCall}
use Rattle.text_answers.specs.Answered.{WroteFront}
use Rattle.text_answers.specs.declared.status.Status.{Status}
use Rattle.edit_server.specs.Generated.{IsGenerated, AnswerCalls}

abbrev pub usage_line : List ℕ
usage_line = codes "fault Usage - 0:0 -\n"

-- the summary of the generated program was written; with workers, it was made by these calls
pub record Generated (command : Command) (calls : List BoardCall) (held held' : Option (List ℕ)) (status : Status) : Type 0 where
  pub written : List ℕ
  pub added : Adds held held' written
  pub is_answer : IsGenerated command.turns command.seed command.size written status
  pub made : command.workers ≢ 0 → AnswerCalls command.turns is_answer.opening calls

-- a front of it was written
pub record BrokenSummary (command : Command) (calls : List BoardCall) (held held' : Option (List ℕ)) : Type 0 where
  pub written : List ℕ
  pub status : Status
  pub front : WroteFront held held' written
  pub is_answer : IsGenerated command.turns command.seed command.size written status
  pub made : command.workers ≢ 0 → AnswerCalls command.turns is_answer.opening calls
