-- A procedure of whose report a line says that it is correct is safe: each of its goals has an accepted proof.
use Rattle.std.proofs.Common.{◌≡◌, ◌∙◌, sym, ap, subst, ℕ, true, is_some, List, map, Contains, inl, inr}
use Rattle.std.specs.List.{AllByRecursion, list_all}
use Rattle.bpl_ast.specs.Statement.{Decl}
use Rattle.bpl_model.specs.Module.{Proc, Module}
use Rattle.bpl_model.specs.Safe.{Safe}
use Rattle.tableau.specs.Search.{is_proved, FindsAccepted, FindsWhereProved}
use Rattle.vc_build.specs.declared.goal.Goal.{Goal}
use Rattle.vc_build.specs.Goals.{goals}
use Rattle.vc_build.specs.Rebuild.{with_body}
use Rattle.vc_build.specs.Sound.{ValidGoalsAreSafe}
use Rattle.report_text.specs.Called.{IsName}
use Rattle.report_text.specs.Correct.{IsProvedAmong, CorrectIsProved}
use Rattle.program_opening.specs.ProcGoals.{ProcGoals, goals_by_proc}
use Rattle.program_opening.specs.Opening.{program, opening, Opens}
use Rattle.program_opening.specs.Laws.{IsSound, DeclaredModulesAreSound}
use Rattle.program_opening.specs.Spelled.{AreSpelled}
use Rattle.program_opening.proofs.Openings.{program_of}
use Rattle.program_opening.proofs.Spelled.{spelled_declarations}
use Rattle.vc_build.specs.Proved.{GoalsAreSorted, ProvedGoalsAreValid}
use Rattle.report_laws.specs.Scratch.{verdicts}
use Rattle.report_laws.specs.Sound.{DeclaredCorrectIsSafe, CorrectIsSafe}
use Rattle.report_laws.proofs.FoundProofs.{all_have}
use Rattle.report_laws.proofs.NamedProcs.{IsAmong, at_place, was_there, report_names, same_proc}
use Rattle.report_laws.proofs.SpelledNames.{spelled_names}

-- the procedures of declarations of texts have names without line feed and colon
declared_names : (ds : List Decl) (m : Module) → AreSpelled ds → opening ds ≡ program m → AllByRecursion (λ p. IsName p.name) m.procs
declared_names ds m spelled is = subst (λ (n : Module). AllByRecursion (λ p. IsName p.name) n.procs) (sym (program_of ds m (sym is)).1) (spelled_names ds spelled)

module _ (proved : CorrectIsProved) (accepted : FindsAccepted) (where_proved : FindsWhereProved) (sorted : GoalsAreSorted) (valid : ProvedGoalsAreValid) (sound : DeclaredModulesAreSound) (safe : ValidGoalsAreSafe) where
  -- a procedure all of whose verdicts are that a proof was found
  found_is_safe : (turns : ℕ) (m : Module) (p : Proc) → IsSound m → Contains m.procs p → list_all is_proved (verdicts turns (goals m p)) ≡ true → Safe m p
  found_is_safe turns m p s there h =
      let proofs = all_have accepted where_proved turns (goals m p) (sorted m p s.typed s.forward there) h in
      safe m p s.typed s.forward there (valid m p s.typed s.forward there proofs)

  pub declared_correct_is_safe : DeclaredCorrectIsSafe
  declared_correct_is_safe turns ds m spelled is name is_name line =
      let ps = goals_by_proc m in
      let s : IsSound m = sound ds m is in
      let r : IsProvedAmong (map (λ (p : ProcGoals). p.name) ps) (map (λ (p : ProcGoals). verdicts turns p.goals) ps) name
      = proved (map (λ (p : ProcGoals). p.name) ps) (map (λ (p : ProcGoals). map (λ (g : Goal). g.mark) p.goals) ps) (map (λ (p : ProcGoals). verdicts turns p.goals) ps) name (report_names m (declared_names ds m spelled is)) is_name line in
      let a : IsAmong turns m (with_body m) name r.verdicts = at_place turns m (with_body m) r.place name r.verdicts r.named r.given in
      let there : Contains m.procs a.proc = was_there (λ (p : Proc). is_some p.body) m.procs a.proc a.there in
      let its : Safe m a.proc = found_is_safe turns m a.proc s there (ap (list_all is_proved) a.given ∙ r.proved) in
      record { proc = a.proc; there = there; named = a.named; safe = λ p here same. subst (Safe m) (same_proc m.procs a.proc p s.own_names there here (a.named ∙ sym same)) its }

pub correct_is_safe : DeclaredCorrectIsSafe → CorrectIsSafe
correct_is_safe law turns text m (inl s) = law turns s.decls m (spelled_declarations text s.decls s.spelled) (sym s.is)
correct_is_safe law turns text m (inr f) = absurd (let never = f.is in cc)
