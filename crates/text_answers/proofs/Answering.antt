-- Which answer is made, from what the text is and what is written.
use Rattle.std.proofs.Common.{◌≡◌, ◌∙◌, ℕ, Bool, List, Some, None, Result, Ok, Err, IfOk, ap, sym, subst}
use Rattle.fault_text.specs.Written.{Written, fault_line}
use Rattle.bpl_model.specs.Module.{Module}
use Rattle.bv_base.specs.Text.{ended, text_of}
use Rattle.program_opening.specs.ProcGoals.{ProcGoals, goals_by_proc}
use Rattle.vc_build.specs.declared.fault.Measure.{Measure}
use Rattle.program_opening.specs.Opening.{Opening, program, refused, size_fault, Opens}
use Rattle.report_laws.specs.Scratch.{lines_on, all_proved}
use Rattle.recheck_report.specs.Parts.{program_in, lines_in}
use Rattle.recheck_report.specs.Recheck.{heads, Rechecks}
use Rattle.recheck_report.specs.Worth.{AcceptedIsSafe}
use Rattle.smoke_report.specs.Smoke.{smoke_lines, none_unreachable, points_large}
use Rattle.text_answers.specs.declared.status.Status.{Status}
use Rattle.text_answers.specs.declared.status.Status.TheVariants.{Refused}
use Rattle.text_answers.specs.Answer.{done_if, IsCheck, IsRecheck, IsSmokeWithin, IsSmoke}

-- ---- check

refused_check : (turns : ℕ) (text written : List ℕ) (status : Status) (o : Opening) (w : Written) → Opens text o → o ≡ refused w
    → written ≡ ended (fault_line w) → status ≡ Refused → IsCheck turns text written status
refused_check turns text written status o w opens is line ends = record {
  opening = refused w;
  opens = subst (Opens text) is opens;
  answer = record { line = line; refused = ends };
}

pub reported : (turns : ℕ) (text written : List ℕ) (status : Status) (o : Opening) (m : Module) (ps : List ProcGoals) → Opens text o → o ≡ program m → ps ≡ goals_by_proc m
    → written ≡ text_of (lines_on turns ps) → status ≡ done_if (all_proved turns ps) → IsCheck turns text written status
reported turns text written status o m ps opens is goals lines all = record {
  opening = program m;
  opens = subst (Opens text) is opens;
  answer = record { from_scratch = lines ∙ ap (λ qs. text_of (lines_on turns qs)) goals; all = all ∙ ap (λ qs. done_if (all_proved turns qs)) goals };
}

-- ---- recheck

refused_recheck : (text written : List ℕ) (status : Status) (o : Opening) (w : Written) → Opens (program_in text) o → o ≡ refused w
    → written ≡ ended (fault_line w) → status ≡ Refused → IsRecheck text written status
refused_recheck text written status o w opens is line ends = record {
  opening = refused w;
  opens = subst (Opens (program_in text)) is opens;
  answer = record { line = line; refused = ends };
}

reviewed : AcceptedIsSafe → (text written : List ℕ) (status : Status) (o : Opening) (m : Module) (ps : List ProcGoals) (ls : List (List ℕ)) (line : List ℕ) (all : Bool)
    → Opens (program_in text) o → o ≡ program m → ps ≡ goals_by_proc m → ls ≡ lines_in text → Rechecks (heads ps) ls line all
    → written ≡ ended line → status ≡ done_if all → IsRecheck text written status
reviewed law text written status o m ps ls line all opens is goals lines rechecks said ends =
    let opened : Opens (program_in text) (program m) = subst (Opens (program_in text)) is opens in
    let same : Rechecks (heads (goals_by_proc m)) ls line all = subst (λ qs. Rechecks (heads qs) ls line all) goals rechecks in
    let found : Rechecks (heads (goals_by_proc m)) (lines_in text) line all = subst (λ ks. Rechecks (heads (goals_by_proc m)) ks line all) lines same in
    record {
      opening = program m;
      opens = opened;
      answer = record {
        line = line;
        all = all;
        rechecks = found;
        said = said;
        ends = ends;
        valid = λ e. (law (program_in text) m (lines_in text) all opened (subst (λ l. Rechecks (heads (goals_by_proc m)) (lines_in text) l all) e found)).valid;
      };
    }

-- ---- smoke

pub refused_smoke : (turns : ℕ) (text written : List ℕ) (status : Status) (o : Opening) (w : Written) → Opens text o → o ≡ refused w
    → written ≡ ended (fault_line w) → status ≡ Refused → IsSmoke turns text written status
refused_smoke turns text written status o w opens is line ends = record {
  opening = refused w;
  opens = subst (Opens text) is opens;
  answer = record { line = line; refused = ends };
}

pub smoked : (turns : ℕ) (text written : List ℕ) (status : Status) (o : Opening) (m : Module) → Opens text o → o ≡ program m
    → IsSmokeWithin turns m (points_large m) written status → IsSmoke turns text written status
smoked turns text written status o m opens is answer = record { opening = program m; opens = subst (Opens text) is opens; answer = answer }

pub smoke_reported : (turns : ℕ) (m : Module) (written : List ℕ) (status : Status) → points_large m ≡ None → written ≡ text_of (smoke_lines turns m) → status ≡ done_if (none_unreachable turns m)
    → IsSmokeWithin turns m (points_large m) written status
smoke_reported turns m written status within lines none = subst (λ found. IsSmokeWithin turns m found written status) (sym within) (record { lines = lines; none = none })

smoke_large : (turns : ℕ) (m : Module) (p : Measure × ℕ) (w : Written) (written : List ℕ) (status : Status) → points_large m ≡ Some p → w ≡ size_fault p.0 p.1 → written ≡ ended (fault_line w) → status ≡ Refused
    → IsSmokeWithin turns m (points_large m) written status
smoke_large turns m p w written status found is line ends = subst (λ found. IsSmokeWithin turns m found written status) (sym found) (record { line = line ∙ ap (λ v. ended (fault_line v)) is; refused = ends })

-- ---- the same of what gives them or nothing

module _ {A E : Type 0} (written : A → List ℕ) (status : A → Status) where
  pub refusal_checks : (turns : ℕ) (text : List ℕ) (o : Opening) (w : Written) (r : Result A E) → Opens text o → o ≡ refused w
      → IfOk r (λ a. written a ≡ ended (fault_line w)) → IfOk r (λ a. status a ≡ Refused) → IfOk r (λ a. IsCheck turns text (written a) (status a))
  refusal_checks turns text o w (Ok a) opens is line ends = refused_check turns text (written a) (status a) o w opens is line ends
  refusal_checks turns text o w (Err e) opens is line ends = tt

  pub refusal_rechecks : (text : List ℕ) (o : Opening) (w : Written) (r : Result A E) → Opens (program_in text) o → o ≡ refused w
      → IfOk r (λ a. written a ≡ ended (fault_line w)) → IfOk r (λ a. status a ≡ Refused) → IfOk r (λ a. IsRecheck text (written a) (status a))
  refusal_rechecks text o w (Ok a) opens is line ends = refused_recheck text (written a) (status a) o w opens is line ends
  refusal_rechecks text o w (Err e) opens is line ends = tt

  pub lines_recheck : AcceptedIsSafe → (text : List ℕ) (o : Opening) (m : Module) (ps : List ProcGoals) (ls : List (List ℕ)) (line : List ℕ) (all : Bool) (s : Status) (r : Result A E)
      → Opens (program_in text) o → o ≡ program m → ps ≡ goals_by_proc m → ls ≡ lines_in text → Rechecks (heads ps) ls line all → s ≡ done_if all
      → IfOk r (λ a. written a ≡ ended line) → IfOk r (λ a. status a ≡ s) → IfOk r (λ a. IsRecheck text (written a) (status a))
  lines_recheck law text o m ps ls line all s (Ok a) opens is goals lines rechecks ends said same = reviewed law text (written a) (status a) o m ps ls line all opens is goals lines rechecks said (same ∙ ends)
  lines_recheck law text o m ps ls line all s (Err e) opens is goals lines rechecks ends said same = tt

  pub refusal_smokes : (turns : ℕ) (text : List ℕ) (o : Opening) (w : Written) (r : Result A E) → Opens text o → o ≡ refused w
      → IfOk r (λ a. written a ≡ ended (fault_line w)) → IfOk r (λ a. status a ≡ Refused) → IfOk r (λ a. IsSmoke turns text (written a) (status a))
  refusal_smokes turns text o w (Ok a) opens is line ends = refused_smoke turns text (written a) (status a) o w opens is line ends
  refusal_smokes turns text o w (Err e) opens is line ends = tt

  pub module_smokes : (turns : ℕ) (text : List ℕ) (o : Opening) (m : Module) (r : Result A E) → Opens text o → o ≡ program m
      → IfOk r (λ a. IsSmokeWithin turns m (points_large m) (written a) (status a)) → IfOk r (λ a. IsSmoke turns text (written a) (status a))
  module_smokes turns text o m (Ok a) opens is h = smoked turns text (written a) (status a) o m opens is h
  module_smokes turns text o m (Err e) opens is h = tt

  pub large_within : (turns : ℕ) (m : Module) (p : Measure × ℕ) (w : Written) (r : Result A E) → points_large m ≡ Some p → w ≡ size_fault p.0 p.1
      → IfOk r (λ a. written a ≡ ended (fault_line w)) → IfOk r (λ a. status a ≡ Refused) → IfOk r (λ a. IsSmokeWithin turns m (points_large m) (written a) (status a))
  large_within turns m p w (Ok a) found is line ends = smoke_large turns m p w (written a) (status a) found is line ends
  large_within turns m p w (Err e) found is line ends = tt
