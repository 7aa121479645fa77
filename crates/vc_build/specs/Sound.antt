-- Where all goals of a procedure are valid, it is safe; gotos may stand in it, and go forward.
use Rattle.std.specs.Prelude.{◌≡◌, ℕ, List, Some, Contains, Any, slice_get}
use Rattle.std.specs.List.{AllByRecursion}
use Rattle.logic_core.specs.Valid.{Valid}
use Rattle.logic_core.specs.WellSorted.{IsWellSorted}
use Rattle.flow_core.specs.declared.mark.Mark.{Mark}
use Rattle.bpl_model.specs.Module.{Proc, Module}
use Rattle.bpl_model.specs.Numbering.{defs_of}
use Rattle.bpl_model.specs.NoGoto.{BodyHasNoGoto}
use Rattle.bpl_model.specs.Typed.{IsTypedModule}
use Rattle.bpl_model.specs.Safe.{Fails, Safe}
use Rattle.bpl_goto.specs.Forward.{AllGoForward}
use Rattle.vc_build.specs.declared.goal.Goal.{Goal}
use Rattle.vc_build.specs.Depends.{reached_axioms}
use Rattle.vc_build.specs.Goals.{sequent_at, passive_graph, goals_by_passes, goals}

-- of a procedure without gotos, the equations at each place, beside the reached axioms, are a well-sorted obligation
abbrev pub SequentsAreSorted : Type 0
SequentsAreSorted = (m : Module) (p : Proc) → IsTypedModule m → Contains m.procs p → BodyHasNoGoto p.body
    → (k at : ℕ) → IsWellSorted (sequent_at (passive_graph m p) (defs_of m) (reached_axioms m p) k at)

-- where an execution from an entry state fails with a mark, some of these goals with that mark isn't valid
abbrev pub HasFailures : Module → Proc → List Goal → Type 0
HasFailures m p gs = (mark : Mark) → Fails m p mark → Any (λ g. (g.mark ≡ mark) × ¬ Valid g.obligation) gs

-- of a procedure without gotos
abbrev pub FailuresHaveGoalsByPasses : Type 0
FailuresHaveGoalsByPasses = (m : Module) (p : Proc) → IsTypedModule m → Contains m.procs p → BodyHasNoGoto p.body → HasFailures m p (goals_by_passes m p)

abbrev pub FailuresHaveGoals : Type 0
FailuresHaveGoals = (m : Module) (p : Proc) → IsTypedModule m → AllGoForward m → Contains m.procs p → HasFailures m p (goals m p)

abbrev pub ValidGoalsAreSafe : Type 0
ValidGoalsAreSafe = (m : Module) (p : Proc) → IsTypedModule m → AllGoForward m → Contains m.procs p
    → AllByRecursion (λ g. Valid g.obligation) (goals m p) → Safe m p

-- of the procedure of this number, if there is one
abbrev pub HaveFailures : Module → ℕ → List Goal → Type 0
HaveFailures m n gs = (p : Proc) → slice_get m.procs n ≡ Some p → HasFailures m p gs
