-- Which answer is made where a program is generated, and that there is one.
use Rattle.std.proofs.Common.{◌≡◌, ◌∙◌, ℕ, Bool, List, length, Result, Ok, Err, IfOk, ap, sym, subst}
use Rattle.std.specs.List.{list_all}
use Rattle.tableau.specs.Search.{is_proved}
use Rattle.fault_text.specs.Written.{Written, fault_line}
use Rattle.bpl_model.specs.Module.{Module}
use Rattle.bv_base.specs.Text.{ended}
use Rattle.program_opening.specs.ProcGoals.{ProcGoals, goals_by_proc}
use Rattle.program_opening.specs.Opening.{Opening, program, refused, Opens}
use Rattle.program_opening.specs.Laws.{OpensOnce}
use Rattle.request_text.specs.Generated.{generate}
use Rattle.report_laws.specs.Summary.{verdicts_on, summary}
use Rattle.text_answers.specs.declared.status.Status.{Status}
use Rattle.text_answers.specs.declared.status.Status.TheVariants.{Refused}
use Rattle.text_answers.specs.Answer.{done_if}
use Rattle.edit_server.specs.Generated.{IsSummaryOn, IsGenerated}
use Rattle.edit_server.specs.Laws.{HasOneSummary}

refused_generated : (turns seed size : ℕ) (text written : List ℕ) (status : Status) (o : Opening) (w : Written) → text ≡ generate seed size → Opens text o → o ≡ refused w
    → written ≡ ended (fault_line w) → status ≡ Refused → IsGenerated turns seed size written status
refused_generated turns seed size text written status o w made opens is line ends = record {
  opening = refused w;
  opens = subst (Opens (generate seed size)) is (subst (λ t. Opens t o) made opens);
  answer = record { line = line; refused = ends };
}

summed : (turns seed size : ℕ) (text written : List ℕ) (status : Status) (o : Opening) (m : Module) (ps : List ProcGoals) (line : List ℕ) (all : Bool)
    → text ≡ generate seed size → Opens text o → o ≡ program m → ps ≡ goals_by_proc m
    → line ≡ summary seed size (length text) (verdicts_on turns ps) → all ≡ list_all is_proved (verdicts_on turns ps)
    → written ≡ ended line → status ≡ done_if all → IsGenerated turns seed size written status
summed turns seed size text written status o m ps line all made opens is goals line_is all_is said ends = record {
  opening = program m;
  opens = subst (Opens (generate seed size)) is (subst (λ t. Opens t o) made opens);
  answer = record {
    line = said ∙ ap ended (line_is ∙ (λ i. summary seed size (length (made i)) (verdicts_on turns (goals i))));
    all = ends ∙ ap done_if (all_is ∙ ap (λ qs. list_all is_proved (verdicts_on turns qs)) goals);
  };
}

-- ---- the same of what gives it or nothing

module _ {A E : Type 0} (written : A → List ℕ) (status : A → Status) where
  pub refusal_generates : (turns seed size : ℕ) (text : List ℕ) (o : Opening) (w : Written) (r : Result A E) → text ≡ generate seed size → Opens text o → o ≡ refused w
      → IfOk r (λ a. written a ≡ ended (fault_line w)) → IfOk r (λ a. status a ≡ Refused) → IfOk r (λ a. IsGenerated turns seed size (written a) (status a))
  refusal_generates turns seed size text o w (Ok a) made opens is line ends = refused_generated turns seed size text (written a) (status a) o w made opens is line ends
  refusal_generates turns seed size text o w (Err e) made opens is line ends = tt

  pub line_sums_up : (turns seed size : ℕ) (text : List ℕ) (o : Opening) (m : Module) (ps : List ProcGoals) (line : List ℕ) (all : Bool) (s : Status) (r : Result A E)
      → text ≡ generate seed size → Opens text o → o ≡ program m → ps ≡ goals_by_proc m
      → line ≡ summary seed size (length text) (verdicts_on turns ps) → all ≡ list_all is_proved (verdicts_on turns ps) → s ≡ done_if all
      → IfOk r (λ a. written a ≡ ended line) → IfOk r (λ a. status a ≡ s) → IfOk r (λ a. IsGenerated turns seed size (written a) (status a))
  line_sums_up turns seed size text o m ps line all s (Ok a) made opens is goals line_is all_is ends said same = summed turns seed size text (written a) (status a) o m ps line all made opens is goals line_is all_is said (same ∙ ends)
  line_sums_up turns seed size text o m ps line all s (Err e) made opens is goals line_is all_is ends said same = tt

-- ---- one answer

one_summary : (turns seed size : ℕ) (o : Opening) (a b : List ℕ) (s t : Status) → IsSummaryOn turns seed size o a s → IsSummaryOn turns seed size o b t → (a ≡ b) × (s ≡ t)
one_summary turns seed size (program m) a b s t x y = (x.line ∙ sym y.line, x.all ∙ sym y.all)
one_summary turns seed size (refused w) a b s t x y = (x.line ∙ sym y.line, x.refused ∙ sym y.refused)

pub has_one_of_generated : OpensOnce → HasOneSummary
has_one_of_generated once turns seed size a b s t x y =
    one_summary turns seed size x.opening a b s t x.answer (subst (λ o. IsSummaryOn turns seed size o b t) (once (generate seed size) y.opening x.opening y.opens x.opens) y.answer)
