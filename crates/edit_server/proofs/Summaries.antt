-- A summary that was written, by the calls that it took.
use Rattle.std.proofs.Common.{◌≡◌, ℕ, ◌<◌, List, length, take, Option, subst}
use Rattle.bv_base.specs.Known.{Adds}
use Rattle.goal_board.specs.Calls.{BoardCall}
use Rattle.command_words.specs.declared.command.Command.{Command}
use Rattle.edit_server.specs.Generated.{IsGeneratedBy}
use Rattle.text_answers.specs.Answered.{WroteFront}
use Rattle.edit_server.specs.Run.{Generated, BrokenSummary}
use Rattle.text_answers.specs.declared.status.Status.{Status}

module _ (c : Command) (calls : List BoardCall) (held held' : Option (List ℕ)) (bytes written : List ℕ) (status : Status) (same : bytes ≡ written) (g : IsGeneratedBy c.turns c.seed c.size calls written status) where
  pub wrote_summary : Adds held held' bytes → Generated c calls held held' status
  wrote_summary a = record { written = written; added = subst (Adds held held') same a; is_answer = g.is; made = λ _. g.made }

  pub wrote_front : (n : ℕ) × (n < length bytes) × Adds held held' (take n bytes) → BrokenSummary c calls held held'
  wrote_front f = record { written = written; status = status; front = subst (WroteFront held held') same f; is_answer = g.is; made = λ _. g.made }
