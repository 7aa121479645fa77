-- Where each goal of a program is proved, its procedures are safe.
use Rattle.std.proofs.Common.{◌≡◌, ◌∙◌, refl, ap, ℕ, true, false, cond, is_some, List, [], ◌∷◌, ◌++◌, map, filter, Option, Some, None}
use Rattle.std.specs.Prelude.{◌&&◌}
use Rattle.std.specs.List.{list_all, AllByRecursion}
use Rattle.std.proofs.lemmas.List.Elements.{All-from_recursion, All-contains}
use Rattle.logic_core.proofs.Booleans.{both_true}
use Rattle.logic_core.specs.Def.{Obligation}
use Rattle.logic_core.specs.WellSorted.{IsWellSorted}
use Rattle.proof_core.specs.Proof.{Proof}
use Rattle.tableau.specs.Search.{Verdict, answer, is_proved, FindsAccepted, FindsWhereProved}
use Rattle.bpl_model.specs.Module.{Stmts, Proc, Module}
use Rattle.vc_build.specs.declared.goal.Goal.{Goal}
use Rattle.vc_build.specs.Goals.{goals}
use Rattle.vc_build.specs.Sound.{ValidGoalsAreSafe}
use Rattle.program_opening.specs.ProcGoals.{goals_of_proc}
use Rattle.program_opening.specs.Laws.{ModulesAreSound}
use Rattle.vc_build.specs.Proved.{HasProof, GoalsAreSorted, ProvedGoalsAreValid}
use Rattle.report_laws.specs.Scratch.{verdict_on, verdicts}
use Rattle.report_laws.specs.Summary.{verdicts_on}
use Rattle.report_laws.specs.Worth.{ProvedAreSafe}
use Rattle.report_laws.proofs.WithoutBody.{no_goals}

-- ---- goals whose verdicts are that a proof was found have accepted proofs

module _ (accepted : FindsAccepted) (where_proved : FindsWhereProved) (turns : ℕ) where
  proved_has : (o : Obligation) → IsWellSorted o → is_proved (answer o turns).verdict ≡ true → HasProof o
  proved_has o sorted h = from_found (answer o turns).found refl
    where
      from_found : (found : Option Proof) → (answer o turns).found ≡ found → HasProof o
      from_found None e = absurd (let none : is_some (answer o turns).found ≡ false = ap is_some e in let some : is_some (answer o turns).found ≡ true = where_proved o turns ∙ h in cc)
      from_found (Some p) e = (p, accepted o turns p sorted e)

  all_have : (gs : List Goal) → AllByRecursion (λ g. IsWellSorted g.obligation) gs → list_all is_proved (verdicts turns gs) ≡ true → AllByRecursion (λ g. HasProof g.obligation) gs
  all_have [] sorted h = tt
  all_have (g ∷ gs) sorted h =
      let parts = both_true (is_proved (verdict_on turns g)) (list_all is_proved (verdicts turns gs)) h in
      (proved_has g.obligation sorted.0 parts.0, all_have gs sorted.1 parts.1)

-- ---- the verdicts of each procedure's goals

all_parts : (xs ys : List Verdict) → list_all is_proved (xs ++ ys) ≡ true → (list_all is_proved xs ≡ true) × (list_all is_proved ys ≡ true)
all_parts [] ys h = (refl, h)
all_parts (x ∷ xs) ys h =
    let first = both_true (is_proved x) (list_all is_proved (xs ++ ys)) h in
    let rest = all_parts xs ys first.1 in
    (λ i. first.0 i && rest.0 i, rest.1)

abbrev AreProved : ℕ → Module → Proc → Type 0
AreProved turns m p = list_all is_proved (verdicts turns (goals m p)) ≡ true

each_proc : (turns : ℕ) (m : Module) (ps : List Proc) → list_all is_proved (verdicts_on turns (map (goals_of_proc m) (filter (λ (p : Proc). is_some p.body) ps))) ≡ true → AllByRecursion (AreProved turns m) ps
each_proc turns m [] h = tt
each_proc turns m (p ∷ ps) h = by_body p.body refl (each_proc turns m ps) h
  where
    others : List Proc
    others = filter (λ (p : Proc). is_some p.body) ps

    by_body : (b : Option Stmts) → p.body ≡ b → (list_all is_proved (verdicts_on turns (map (goals_of_proc m) others)) ≡ true → AllByRecursion (AreProved turns m) ps)
        → list_all is_proved (verdicts_on turns (map (goals_of_proc m) (cond (is_some b) (p ∷ others) others))) ≡ true → AreProved turns m p × AllByRecursion (AreProved turns m) ps
    by_body None e rest k = (ap (λ gs. list_all is_proved (verdicts turns gs)) (no_goals m p e), rest k)
    by_body (Some ss) e rest k =
        let parts = all_parts (verdicts turns (goals m p)) (verdicts_on turns (map (goals_of_proc m) others)) k in
        (parts.0, rest parts.1)

pub proved_are_safe : FindsAccepted → FindsWhereProved → GoalsAreSorted → ProvedGoalsAreValid → ModulesAreSound → ValidGoalsAreSafe → ProvedAreSafe
proved_are_safe accepted where_proved sorted valid sound safe turns text m opens h p there =
    let s = sound text m opens in
    let its = All-contains (AreProved turns m) m.procs p (All-from_recursion (AreProved turns m) m.procs (each_proc turns m m.procs h)) there in
    let proofs = all_have accepted where_proved turns (goals m p) (sorted m p s.typed s.forward there) its in
    safe m p s.typed s.forward there (valid m p s.typed s.forward there proofs)
