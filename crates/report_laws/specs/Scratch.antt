-- The report from scratch: of each procedure with a body the verdicts of its goals, each searched with the same turns.
use Rattle.std.specs.Prelude.{ℕ, Bool, List, map}
use Rattle.std.specs.List.{list_all}
use Rattle.tableau.specs.Search.{Verdict, answer, is_proved}
use Rattle.bpl_model.specs.Module.{Module}
use Rattle.vc_build.specs.declared.goal.Goal.{Goal}
use Rattle.report_text.specs.Report.{report}
use Rattle.program_opening.specs.ProcGoals.{ProcGoals, goals_by_proc}

abbrev pub verdict_on : ℕ → Goal → Verdict
verdict_on turns g = (answer g.obligation turns).verdict

abbrev pub verdicts : ℕ → List Goal → List Verdict
verdicts turns gs = map (verdict_on turns) gs

abbrev pub lines_on : ℕ → List ProcGoals → List (List ℕ)
lines_on turns ps = report (map (λ p. p.name) ps) (map (λ p. map (λ g. g.mark) p.goals) ps) (map (λ p. verdicts turns p.goals) ps)

-- every goal of every procedure is proved
abbrev pub all_proved : ℕ → List ProcGoals → Bool
all_proved turns ps = list_all (λ p. list_all is_proved (verdicts turns p.goals)) ps

abbrev pub scratch : ℕ → Module → List (List ℕ)
scratch turns m = lines_on turns (goals_by_proc m)
