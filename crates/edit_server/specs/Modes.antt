-- Which commands there are, and which of them share their board with workers.
use Rattle.std.specs.Prelude.{◌≡◌, ℕ, nat_eq, Bool, not, ◌&&◌, List, Some}
use Rattle.command_words.specs.Reading.{reading}
use Rattle.command_words.specs.declared.command.Command.{Command}
use Rattle.text_answers.specs.Modes.{answers_text}

-- some words are this command
abbrev pub IsCommand : Command → Type 0
IsCommand c = (words : List (List ℕ)) × (reading words ≡ Some c)

-- whether workers prove beside the command's own thread
abbrev pub is_shared : Command → Bool
is_shared c = not (answers_text c.mode) && not (nat_eq c.workers 0)
