-- What the summary of a generated program is worth, from what it is.
use Rattle.std.proofs.Common.{◌≡◌, ◌∙◌, ℕ, Bool, true, false, List, refl, sym, subst}
use Rattle.std.specs.List.{list_all}
use Rattle.tableau.specs.Search.{is_proved}
use Rattle.request_text.specs.Generated.{generate}
use Rattle.program_opening.specs.ProcGoals.{goals_by_proc}
use Rattle.program_opening.specs.Opening.{Opening, program, refused, Opens}
use Rattle.report_laws.specs.Summary.{verdicts_on}
use Rattle.report_laws.specs.Worth.{ProvedAreSafe}
use Rattle.text_answers.specs.Answer.{done_if}
use Rattle.text_answers.specs.Exit.{IsAnswering}
use Rattle.edit_server.specs.Generated.{IsSummaryOn, IsGenerated}
use Rattle.edit_server.specs.SummaryWorth.{SummaryWorth}
use Rattle.text_answers.specs.declared.status.Status.{Status}
use Rattle.text_answers.specs.declared.status.Status.TheVariants.{Done, NotAll, Refused}
use Rattle.text_answers.proofs.Worth.{is_program}

all_done : (all : Bool) → done_if all ≡ Done → all ≡ true
all_done true e = refl
all_done false e = absurd (cc)

never_done : Refused ≡ Done → ⊥
never_done e = cc

of_opening : ProvedAreSafe → (turns seed size : ℕ) (written : List ℕ) (status : Status) (o : Opening) → Opens (generate seed size) o → IsSummaryOn turns seed size o written status → SummaryWorth seed size status
of_opening law turns seed size written status (program m) opens a done =
    (m, is_program (generate seed size) m opens, law turns (generate seed size) m opens (all_done (list_all is_proved (verdicts_on turns (goals_by_proc m))) (sym a.all ∙ done)))
of_opening law turns seed size written status (refused w) opens a done = absurd (never_done (sym a.refused ∙ done))

pub summary_is_worth : ProvedAreSafe → (turns seed size : ℕ) (written : List ℕ) (status : Status) → IsGenerated turns seed size written status → SummaryWorth seed size status
summary_is_worth law turns seed size written status g = of_opening law turns seed size written status g.opening g.opens g.answer

-- an answer is there where all is done
pub done_answers : (status : Status) → status ≡ Done → IsAnswering status
done_answers status done = subst IsAnswering (sym done) tt
