-- An input has one answer.
use Rattle.std.proofs.Common.{◌≡◌, ◌∙◌, ℕ, List, Option, Some, None, sym, ap, subst}
use Rattle.bv_base.specs.Text.{ended}
use Rattle.fault_text.specs.Written.{Written}
use Rattle.recheck_report.specs.Parts.{program_in, lines_in}
use Rattle.program_opening.specs.ProcGoals.{goals_by_proc}
use Rattle.program_opening.specs.Opening.{Opening, program, refused}
use Rattle.program_opening.specs.Laws.{OpensOnce}
use Rattle.recheck_report.specs.Recheck.{heads}
use Rattle.recheck_report.specs.Worth.{OneAnswer}
use Rattle.bpl_model.specs.Module.{Module}
use Rattle.vc_build.specs.declared.fault.Measure.{Measure}
use Rattle.smoke_report.specs.Smoke.{points_large}
use Rattle.command_words.specs.declared.command.Mode.TheVariants.{Check, Serve, Recheck, Gen, Smoke}
use Rattle.text_answers.specs.declared.status.Status.{Status}
use Rattle.text_answers.specs.Answer.{done_if, IsRefusal, IsReportOn, IsReviewOn, IsSmokeWithin, IsSmokeOn}
use Rattle.text_answers.specs.Laws.{HasOneAnswer}

one_refusal : (w : Written) (a b : List ℕ) (s t : Status) → IsRefusal w a s → IsRefusal w b t → (a ≡ b) × (s ≡ t)
one_refusal w a b s t x y = (x.line ∙ sym y.line, x.refused ∙ sym y.refused)

one_report : (turns : ℕ) (o : Opening) (a b : List ℕ) (s t : Status) → IsReportOn turns o a s → IsReportOn turns o b t → (a ≡ b) × (s ≡ t)
one_report turns (program m) a b s t x y = (x.from_scratch ∙ sym y.from_scratch, x.all ∙ sym y.all)
one_report turns (refused w) a b s t x y = one_refusal w a b s t x y

one_review : OneAnswer → (o : Opening) (ls : List (List ℕ)) (a b : List ℕ) (s t : Status) → IsReviewOn o ls a s → IsReviewOn o ls b t → (a ≡ b) × (s ≡ t)
one_review law (program m) ls a b s t x y =
    let same = law (heads (goals_by_proc m)) ls x.line y.line x.all y.all x.rechecks y.rechecks in
    (x.said ∙ ap ended same.0 ∙ sym y.said, x.ends ∙ ap done_if same.1 ∙ sym y.ends)
one_review law (refused w) ls a b s t x y = one_refusal w a b s t x y

one_within : (turns : ℕ) (m : Module) (found : Option (Measure × ℕ)) (a b : List ℕ) (s t : Status) → IsSmokeWithin turns m found a s → IsSmokeWithin turns m found b t → (a ≡ b) × (s ≡ t)
one_within turns m None a b s t x y = (x.lines ∙ sym y.lines, x.none ∙ sym y.none)
one_within turns m (Some p) a b s t x y = (x.line ∙ sym y.line, x.refused ∙ sym y.refused)

one_smoke : (turns : ℕ) (o : Opening) (a b : List ℕ) (s t : Status) → IsSmokeOn turns o a s → IsSmokeOn turns o b t → (a ≡ b) × (s ≡ t)
one_smoke turns (program m) a b s t x y = one_within turns m (points_large m) a b s t x y
one_smoke turns (refused w) a b s t x y = one_refusal w a b s t x y

pub has_one : OpensOnce → OneAnswer → HasOneAnswer
has_one once law Check turns text a b s t x y =
    one_report turns x.opening a b s t x.answer (subst (λ o. IsReportOn turns o b t) (once text y.opening x.opening y.opens x.opens) y.answer)
has_one once law Recheck turns text a b s t x y =
    one_review law x.opening (lines_in text) a b s t x.answer (subst (λ o. IsReviewOn o (lines_in text) b t) (once (program_in text) y.opening x.opening y.opens x.opens) y.answer)
has_one once law Serve turns text a b s t x y = absurd x
has_one once law Gen turns text a b s t x y = absurd x
has_one once law Smoke turns text a b s t x y =
    one_smoke turns x.opening a b s t x.answer (subst (λ o. IsSmokeOn turns o b t) (once text y.opening x.opening y.opens x.opens) y.answer)
