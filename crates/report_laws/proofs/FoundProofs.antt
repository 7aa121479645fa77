-- Goals whose verdicts are that a proof was found have accepted proofs.
use Rattle.std.proofs.Common.{◌≡◌, ◌∙◌, refl, ap, ℕ, true, false, Option, Some, None, is_some, List, [], ◌∷◌}
use Rattle.std.specs.List.{list_all, AllByRecursion}
use Rattle.logic_core.proofs.Booleans.{both_true}
use Rattle.logic_core.specs.Def.{Obligation}
use Rattle.logic_core.specs.WellSorted.{IsWellSorted}
use Rattle.proof_core.specs.Proof.{Proof}
use Rattle.tableau.specs.Search.{answer, is_proved, FindsAccepted, FindsWhereProved}
use Rattle.vc_build.specs.declared.goal.Goal.{Goal}
use Rattle.vc_build.specs.Proved.{HasProof}
use Rattle.report_laws.specs.Scratch.{verdict_on, verdicts}

module _ (accepted : FindsAccepted) (where_proved : FindsWhereProved) (turns : ℕ) where
  proved_has : (o : Obligation) → IsWellSorted o → is_proved (answer o turns).verdict ≡ true → HasProof o
  proved_has o sorted h = from_found (answer o turns).found refl
    where
      from_found : (found : Option Proof) → (answer o turns).found ≡ found → HasProof o
      from_found None e = absurd (let none : is_some (answer o turns).found ≡ false = ap is_some e in let some : is_some (answer o turns).found ≡ true = where_proved o turns ∙ h in cc)
      from_found (Some p) e = (p, accepted o turns p sorted e)

  pub all_have : (gs : List Goal) → AllByRecursion (λ g. IsWellSorted g.obligation) gs → list_all is_proved (verdicts turns gs) ≡ true → AllByRecursion (λ g. HasProof g.obligation) gs
  all_have [] sorted h = tt
  all_have (g ∷ gs) sorted h =
      let parts = both_true (is_proved (verdict_on turns g)) (list_all is_proved (verdicts turns gs)) h in
      (proved_has g.obligation sorted.0 parts.0, all_have gs sorted.1 parts.1)
