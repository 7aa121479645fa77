-- An input has one answer.
use Rattle.std.specs.Prelude.{◌≡◌, ℕ, List}
use Rattle.command_words.specs.declared.command.Mode.{Mode}
use Rattle.text_answers.specs.Answer.{IsAnswerOf}
use Rattle.text_answers.specs.declared.status.Status.{Status}

-- whichever answer is the defined one, no other is
abbrev pub HasOneAnswer : Type 0
HasOneAnswer = (mode : Mode) (turns : ℕ) (text a b : List ℕ) (s t : Status) → IsAnswerOf mode turns text a s → IsAnswerOf mode turns text b t → (a ≡ b) × (s ≡ t)
