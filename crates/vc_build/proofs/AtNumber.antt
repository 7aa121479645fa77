-- The goals of the procedure of a number hold one that isn't valid for each mark with which the procedure fails.
use Rattle.std.specs.Prelude.{◌≡◌, ℕ, List, Some, Contains, slice_get}
use Rattle.std.proofs.Common.{◌∙◌, ap, sym, subst}
use Rattle.std.proofs.lemmas.Option.{slice_get_within, get_or_from_slice_get}
use Rattle.bpl_model.specs.Module.{Proc, Module}
use Rattle.bpl_model.specs.Typed.{IsTypedModule}
use Rattle.bpl_model.specs.NoGoto.{BodyHasNoGoto}
use Rattle.vc_build.specs.declared.goal.Goal.{Goal}
use Rattle.vc_build.specs.Goals.{goals_of_found, goals_at}
use Rattle.vc_build.specs.Sound.{FailuresHaveGoalsByPasses, HasFailures, HaveFailures}

is_there : (m : Module) (n : ℕ) (p : Proc) → slice_get m.procs n ≡ Some p → Contains m.procs p
is_there m n p at = (n, slice_get_within m.procs n p at, get_or_from_slice_get m.procs n p p at)

pub failures_at : FailuresHaveGoalsByPasses → (m : Module) (n : ℕ) → IsTypedModule m → ((p : Proc) → slice_get m.procs n ≡ Some p → BodyHasNoGoto p.body) → (gs : List Goal) → gs ≡ goals_at m n → HaveFailures m n gs
failures_at by_passes m n typed none gs same p at =
    subst (HasFailures m p) (sym (same ∙ ap (goals_of_found m) at)) (by_passes m p typed (is_there m n p at) (none p at))
