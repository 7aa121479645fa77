-- Goals with accepted proofs are valid.
use Rattle.std.specs.Prelude.{List, [], ◌∷◌}
use Rattle.std.specs.List.{AllByRecursion}
use Rattle.logic_core.specs.Valid.{Valid}
use Rattle.logic_core.specs.WellSorted.{IsWellSorted}
use Rattle.proof_core.specs.Soundness.{AcceptanceIsSound}
use Rattle.vc_build.specs.declared.goal.Goal.{Goal}
use Rattle.vc_build.specs.Goals.{goals}
use Rattle.vc_build.specs.Proved.{HasProof, GoalsAreSorted, ProvedGoalsAreValid}

each_valid : AcceptanceIsSound → (gs : List Goal) → AllByRecursion (λ g. IsWellSorted g.obligation) gs → AllByRecursion (λ g. HasProof g.obligation) gs → AllByRecursion (λ g. Valid g.obligation) gs
each_valid sound [] sorted proved = tt
each_valid sound (g ∷ gs) sorted proved = (sound g.obligation (proved.0).0 sorted.0 (proved.0).1, each_valid sound gs sorted.1 proved.1)

pub proved_are_valid : AcceptanceIsSound → GoalsAreSorted → ProvedGoalsAreValid
proved_are_valid sound sorted m p typed ahead there proved = each_valid sound (goals m p) (sorted m p typed ahead there) proved
