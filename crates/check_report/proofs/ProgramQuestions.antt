-- The questions of the procedures that have a body are those of all goals of the program.
use Rattle.std.proofs.Common.{◌≡◌, ◌∙◌, refl, sym, ap, ℕ, cond, is_some, List, [], ◌∷◌, ◌++◌, map, filter, Option, Some, None}
use Rattle.std.specs.Prelude.{flat_map}
use Rattle.bpl_model.specs.Module.{Stmts, Proc, Module}
use Rattle.vc_build.specs.Goals.{goals}
use Rattle.vc_build.specs.Large.{program_goals}
use Rattle.program_opening.specs.ProcGoals.{goals_of_proc, goals_by_proc}
use Rattle.report_laws.proofs.Mapped.{map_flat}
use Rattle.report_laws.proofs.WithoutBody.{no_goals}
use Rattle.check_report.specs.Questions.{question_on, questions_on}

of_bodies : (turns : ℕ) (m : Module) (ps : List Proc) → questions_on turns (map (goals_of_proc m) (filter (λ (p : Proc). is_some p.body) ps)) ≡ flat_map (λ (p : Proc). map (question_on turns) (goals m p)) ps
of_bodies turns m [] = refl
of_bodies turns m (p ∷ ps) = by_body p.body refl (of_bodies turns m ps)
  where
    others : List Proc
    others = filter (λ (p : Proc). is_some p.body) ps

    by_body : (b : Option Stmts) → p.body ≡ b → questions_on turns (map (goals_of_proc m) others) ≡ flat_map (λ (p : Proc). map (question_on turns) (goals m p)) ps
        → questions_on turns (map (goals_of_proc m) (cond (is_some b) (p ∷ others) others)) ≡ map (question_on turns) (goals m p) ++ flat_map (λ (p : Proc). map (question_on turns) (goals m p)) ps
    by_body None e rest = rest ∙ ap (λ gs. map (question_on turns) gs ++ flat_map (λ (p : Proc). map (question_on turns) (goals m p)) ps) (sym (no_goals m p e))
    by_body (Some ss) e rest = ap (λ qs. map (question_on turns) (goals m p) ++ qs) rest

pub questions_by_proc : (turns : ℕ) (m : Module) → questions_on turns (goals_by_proc m) ≡ map (question_on turns) (program_goals m)
questions_by_proc turns m = of_bodies turns m m.procs ∙ sym (map_flat (goals m) (question_on turns) m.procs)
