-- A generated program has one summary.
use Rattle.std.specs.Prelude.{◌≡◌, ℕ, List}
use Rattle.edit_server.specs.Generated.{IsGenerated}
use Rattle.text_answers.specs.declared.status.Status.{Status}

-- whichever summary is the defined one, no other is
abbrev pub HasOneSummary : Type 0
HasOneSummary = (turns seed size : ℕ) (a b : List ℕ) (s t : Status) → IsGenerated turns seed size a s → IsGenerated turns seed size b t → (a ≡ b) × (s ≡ t)
