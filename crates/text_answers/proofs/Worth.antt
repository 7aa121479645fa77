-- What an answer is worth, from what it is.
use Rattle.std.proofs.Common.{◌≡◌, ◌∙◌, ℕ, inl, inr, List, Option, Some, None, get_or, sym, ap, subst, arith}
use Rattle.bpl_model.specs.Module.{Module}
use Rattle.program_opening.specs.ProcGoals.{goals_by_proc}
use Rattle.program_opening.specs.Opening.{Opening, program, refused, Opens}
use Rattle.program_opening.specs.Laws.{ModulesAreSound}
use Rattle.report_laws.specs.Called.{CallsCorrectTheSafe}
use Rattle.report_laws.proofs.Programs.{opens_as}
use Rattle.report_laws.specs.Sound.{CorrectIsSafe}
use Rattle.recheck_report.specs.Accepted.{accepted_line}
use Rattle.recheck_report.specs.Recheck.{heads, Rechecks}
use Rattle.recheck_report.specs.Worth.{AcceptedIsSafe}
use Rattle.recheck_report.specs.Parts.{program_in, lines_in}
use Rattle.vc_build.specs.declared.fault.Measure.{Measure}
use Rattle.smoke_report.specs.Smoke.{points_large}
use Rattle.smoke_report.specs.Unreached.{NamesUnreached}
use Rattle.smoke_report.specs.Sound.{UnreachableIsUnreached}
use Rattle.text_answers.specs.declared.status.Status.{Status}
use Rattle.text_answers.specs.Answer.{IsCheck, IsReportOn, IsRecheck, IsReviewOn, IsSmoke, IsSmokeOn, IsSmokeWithin}
use Rattle.text_answers.specs.Worth.{IsProgram, IsCorrectSafe, IsAcceptedSafe, IsNamedUnreached}
use Rattle.text_answers.proofs.Ends.{same_line}

-- a text that is a program, and not a fault, spells it, and it has no fault by names and types
pub is_program : (text : List ℕ) (m : Module) → Opens text (program m) → IsProgram text m
is_program text m (inl s) =
    record { decls = s.decls; spelled = s.spelled; is_program = opens_as s.decls m s.is }
is_program text m (inr f) = absurd (let never = f.is in cc)

of_report : CorrectIsSafe → (turns : ℕ) (text written : List ℕ) (status : Status) (o : Opening) → Opens text o → IsReportOn turns o written status → IsCorrectSafe text written status
of_report law turns text written status (program m) opens a not_refused = (m, is_program text m opens, subst (CallsCorrectTheSafe m) (sym a.from_scratch) (law turns text m opens))
of_report law turns text written status (refused w) opens a not_refused = absurd (not_refused a.refused)

-- a report calls correct what is safe
pub check_is_worth : CorrectIsSafe → (turns : ℕ) (text written : List ℕ) (status : Status) → IsCheck turns text written status → IsCorrectSafe text written status
check_is_worth law turns text written status c = of_report law turns text written status c.opening c.opens c.answer

of_review : AcceptedIsSafe → (text written : List ℕ) (status : Status) (o : Opening) → Opens (program_in text) o → IsReviewOn o (lines_in text) written status → IsAcceptedSafe text written
of_review law text written status (program m) opens a e =
    let line : a.line ≡ accepted_line = same_line a.line accepted_line (sym a.said ∙ e) in
    let well = law (program_in text) m (lines_in text) a.all opens (subst (λ l. Rechecks (heads (goals_by_proc m)) (lines_in text) l a.all) line a.rechecks) in
    (m, is_program (program_in text) m opens, well.safe)
of_review law text written status (refused w) opens a e =
    let never : 102 ≡ 97 = ap (λ bytes. get_or bytes 0 0) (sym a.line ∙ e) in
    absurd (omega (arith, never))

-- where proofs are accepted, all procedures are safe
pub recheck_is_worth : AcceptedIsSafe → (text written : List ℕ) (status : Status) → IsRecheck text written status → IsAcceptedSafe text written
recheck_is_worth law text written status r = of_review law text written status r.opening r.opens r.answer

of_within : UnreachableIsUnreached → ModulesAreSound → (turns : ℕ) (text written : List ℕ) (status : Status) (m : Module) → Opens text (program m) → (found : Option (Measure × ℕ)) → IsSmokeWithin turns m found written status → IsNamedUnreached text written status
of_within law modules turns text written status m opens None a not_refused =
    let s = modules text m opens in
    (m, is_program text m opens, subst (NamesUnreached m) (sym a.lines) (law turns m s.typed s.forward))
of_within law modules turns text written status m opens (Some p) a not_refused = absurd (not_refused a.refused)

of_points : UnreachableIsUnreached → ModulesAreSound → (turns : ℕ) (text written : List ℕ) (status : Status) (o : Opening) → Opens text o → IsSmokeOn turns o written status → IsNamedUnreached text written status
of_points law modules turns text written status (program m) opens a not_refused = of_within law modules turns text written status m opens (points_large m) a not_refused
of_points law modules turns text written status (refused w) opens a not_refused = absurd (not_refused a.refused)

-- what is named is reached by no execution
pub smoke_is_worth : UnreachableIsUnreached → ModulesAreSound → (turns : ℕ) (text written : List ℕ) (status : Status) → IsSmoke turns text written status → IsNamedUnreached text written status
smoke_is_worth law modules turns text written status s = of_points law modules turns text written status s.opening s.opens s.answer
