-- What is answered to a whole input, and the status: exactly the report from scratch, what is said of the proofs or of the points, or the fault's line.
use Rattle.std.specs.Prelude.{◌≡◌, ℕ, Bool, cond, List, Option, Some, None, Contains}
use Rattle.std.specs.List.{AllByRecursion}
use Rattle.logic_core.specs.Valid.{Valid}
use Rattle.bpl_model.specs.Module.{Proc, Module}
use Rattle.command_words.specs.declared.command.Mode.{Mode}
use Rattle.command_words.specs.declared.command.Mode.TheVariants.{Check, Serve, Recheck, Gen, Smoke}
use Rattle.fault_text.specs.Written.{Written, fault_line}
use Rattle.bv_base.specs.Text.{ended, text_of}
use Rattle.recheck_report.specs.Parts.{program_in, lines_in}
use Rattle.vc_build.specs.Goals.{goals}
use Rattle.vc_build.specs.declared.fault.Measure.{Measure}
use Rattle.program_opening.specs.ProcGoals.{goals_by_proc}
use Rattle.program_opening.specs.Opening.{Opening, program, refused, size_fault, Opens}
use Rattle.report_laws.specs.Scratch.{scratch, all_proved}
use Rattle.recheck_report.specs.Accepted.{accepted_line}
use Rattle.recheck_report.specs.Recheck.{heads, Rechecks}
use Rattle.smoke_report.specs.Smoke.{smoke_lines, none_unreachable, points_large}
use Rattle.text_answers.specs.declared.status.Status.{Status}
use Rattle.text_answers.specs.declared.status.Status.TheVariants.{Done, NotAll, Refused}

-- Done exactly where all that was asked for holds
abbrev pub done_if : Bool → Status
done_if all = cond all Done NotAll

-- a text with a fault is answered by the fault's line
pub record IsRefusal (w : Written) (written : List ℕ) (status : Status) : Type 0 where
  pub line : written ≡ ended (fault_line w)
  pub refused : status ≡ Refused

-- ---- check: the report from scratch, each goal searched with the same turns

pub record IsReport (turns : ℕ) (m : Module) (written : List ℕ) (status : Status) : Type 0 where
  pub from_scratch : written ≡ text_of (scratch turns m)
  pub all : status ≡ done_if (all_proved turns (goals_by_proc m))

abbrev pub IsReportOn : ℕ → Opening → List ℕ → Status → Type 0
IsReportOn turns (program m) written status = IsReport turns m written status
IsReportOn turns (refused w) written status = IsRefusal w written status

pub record IsCheck (turns : ℕ) (text written : List ℕ) (status : Status) : Type 0 where
  pub opening : Opening
  pub opens : Opens text opening
  pub answer : IsReportOn turns opening written status

-- ---- recheck: what is said of the lines as proofs of the goals; where they are all accepted, each goal is valid

-- each goal of each procedure is valid
abbrev pub AllAreValid : Module → Type 0
AllAreValid m = (p : Proc) → Contains m.procs p → AllByRecursion (λ g. Valid g.obligation) (goals m p)

pub record IsReview (m : Module) (ls : List (List ℕ)) (written : List ℕ) (status : Status) : Type 0 where
  pub line : List ℕ
  pub all : Bool
  pub rechecks : Rechecks (heads (goals_by_proc m)) ls line all
  pub said : written ≡ ended line
  pub ends : status ≡ done_if all
  pub valid : line ≡ accepted_line → AllAreValid m

abbrev pub IsReviewOn : Opening → List (List ℕ) → List ℕ → Status → Type 0
IsReviewOn (program m) ls written status = IsReview m ls written status
IsReviewOn (refused w) ls written status = IsRefusal w written status

pub record IsRecheck (text written : List ℕ) (status : Status) : Type 0 where
  pub opening : Opening
  pub opens : Opens (program_in text) opening
  pub answer : IsReviewOn opening (lines_in text) written status

-- ---- smoke: the points that the search shows to be unreachable, each with the same turns

pub record IsSmokeReport (turns : ℕ) (m : Module) (written : List ℕ) (status : Status) : Type 0 where
  pub lines : written ≡ text_of (smoke_lines turns m)
  pub none : status ≡ done_if (none_unreachable turns m)

-- a program that is too large with some of its points put in is refused
abbrev pub IsSmokeWithin : ℕ → Module → Option (Measure × ℕ) → List ℕ → Status → Type 0
IsSmokeWithin turns m None written status = IsSmokeReport turns m written status
IsSmokeWithin turns m (Some p) written status = IsRefusal (size_fault p.0 p.1) written status

abbrev pub IsSmokeOn : ℕ → Opening → List ℕ → Status → Type 0
IsSmokeOn turns (program m) written status = IsSmokeWithin turns m (points_large m) written status
IsSmokeOn turns (refused w) written status = IsRefusal w written status

pub record IsSmoke (turns : ℕ) (text written : List ℕ) (status : Status) : Type 0 where
  pub opening : Opening
  pub opens : Opens text opening
  pub answer : IsSmokeOn turns opening written status

-- ---- of each mode that answers a text

abbrev pub IsAnswerOf : Mode → ℕ → List ℕ → List ℕ → Status → Type 0
IsAnswerOf Check turns text written status = IsCheck turns text written status
IsAnswerOf Recheck turns text written status = IsRecheck text written status
IsAnswerOf Serve turns text written status = ⊥
IsAnswerOf Gen turns text written status = ⊥
IsAnswerOf Smoke turns text written status = IsSmoke turns text written status
