-- What is answered where a program is generated: the summary of its goals, each searched with the same turns, or the fault's line; and by which calls on a board that is shared with workers.
use Rattle.std.specs.Prelude.{◌≡◌, ℕ, List, map, length}
use Rattle.std.specs.List.{list_all}
use Rattle.tableau.specs.Search.{is_proved}
use Rattle.tableau.specs.Settled.{Settled}
use Rattle.bpl_model.specs.Module.{Module}
use Rattle.bv_base.specs.Text.{ended}
use Rattle.request_text.specs.Generated.{generate}
use Rattle.program_opening.specs.ProcGoals.{goals_by_proc}
use Rattle.program_opening.specs.Opening.{Opening, program, refused, Opens}
use Rattle.report_laws.specs.Summary.{verdicts_on, summary}
use Rattle.goal_board.specs.Calls.{BoardCall}
use Rattle.edit_session.specs.GenCalls.{GenCalls}
use Rattle.edit_session.specs.GenCalls as outcome
use Rattle.text_answers.specs.declared.status.Status.{Status}
use Rattle.text_answers.specs.Answer.{done_if, IsRefusal}

pub record IsSummary (turns seed size : ℕ) (m : Module) (written : List ℕ) (status : Status) : Type 0 where
  pub line : written ≡ ended (summary seed size (length (generate seed size)) (verdicts_on turns (goals_by_proc m)))
  pub all : status ≡ done_if (list_all is_proved (verdicts_on turns (goals_by_proc m)))

abbrev pub IsSummaryOn : ℕ → ℕ → ℕ → Opening → List ℕ → Status → Type 0
IsSummaryOn turns seed size (program m) written status = IsSummary turns seed size m written status
IsSummaryOn turns seed size (refused w) written status = IsRefusal w written status

pub record IsGenerated (turns seed size : ℕ) (written : List ℕ) (status : Status) : Type 0 where
  pub opening : Opening
  pub opens : Opens (generate seed size) opening
  pub answer : IsSummaryOn turns seed size opening written status

-- the program's goals were opened, answered and shown, and these are the verdicts that the summary counts; of a text with a fault the close is the only call
abbrev pub AnswerCalls : ℕ → Opening → List BoardCall → Type 0
AnswerCalls turns (program m) calls = (answers : List Settled) × GenCalls turns (outcome.Outcome.summed m answers) calls × (map (λ (a : Settled). a.verdict) answers ≡ verdicts_on turns (goals_by_proc m))
AnswerCalls turns (refused w) calls = GenCalls turns outcome.Outcome.refused calls

-- the answer, and the calls by which it was made
pub record IsGeneratedBy (turns seed size : ℕ) (calls : List BoardCall) (written : List ℕ) (status : Status) : Type 0 where
  pub is : IsGenerated turns seed size written status
  pub made : AnswerCalls turns is.opening calls

-- there was no memory, and these calls were made
abbrev pub IsStarvedBy : ℕ → List BoardCall → Type 0
IsStarvedBy turns calls = GenCalls turns outcome.Outcome.starved calls
