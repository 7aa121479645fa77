-- What the summary of a generated program is worth, said by executions alone: where each of its goals is proved, no execution of any of its procedures from an entry state fails.
use Rattle.std.specs.Prelude.{◌≡◌, ℕ}
use Rattle.bpl_model.specs.Module.{Module}
use Rattle.request_text.specs.Generated.{generate}
use Rattle.text_answers.specs.Worth.{IsProgram, AllAreSafe}
use Rattle.text_answers.specs.declared.status.Status.{Status}
use Rattle.text_answers.specs.declared.status.Status.TheVariants.{Done}

abbrev pub SummaryWorth : ℕ → ℕ → Status → Type 0
SummaryWorth seed size status = status ≡ Done → (m : Module) × IsProgram (generate seed size) m × AllAreSafe m
