-- A run of a command, alone or beside workers.
use Rattle.std.specs.Prelude.{List}
use Rattle.goal_board.specs.Calls.{BoardCall}
use Rattle.command_words.specs.declared.command.Command.{Command}
use Rattle.edit_server.specs.Ran.{Outside, Ran}
use Rattle.text_answers.specs.declared.status.Status.{Status}

-- the command was run, whatever its calls on a board
abbrev pub Runs : Command → Outside → Outside → Status → Type 0
Runs c s t status = (calls : List BoardCall) × Ran c calls s t status
