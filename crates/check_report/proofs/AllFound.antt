-- Whether all verdicts that were found are proofs is whether all goals are proved.
use Rattle.std.proofs.Common.{◌≡◌, ◌∙◌, sym, ap, ℕ, List, map, Vec, Global}
use Rattle.std.specs.List.{list_all}
use Rattle.std.proofs.lemmas.List.Folds.{list_all-map}
use Rattle.tableau.specs.declared.ended.Verdict.{Verdict}
use Rattle.tableau.specs.RunView.{verdict_of}
use Rattle.tableau.specs.Search.{is_proved}
use Rattle.program_opening.specs.ProcGoals.{ProcGoals}
use Rattle.report_laws.specs.Scratch.{verdicts, all_proved}

pub all_by_parts : (turns : ℕ) (found : List (Vec Verdict Global)) (ps : List ProcGoals) → map (λ vs. map verdict_of vs.items) found ≡ map (λ p. verdicts turns p.goals) ps
    → list_all (λ vs. list_all is_proved (map verdict_of vs.items)) found ≡ all_proved turns ps
all_by_parts turns found ps e =
    sym (list_all-map (list_all is_proved) (λ (vs : Vec Verdict Global). map verdict_of vs.items) found) ∙ ap (list_all (list_all is_proved)) e
    ∙ list_all-map (list_all is_proved) (λ (p : ProcGoals). verdicts turns p.goals) ps
