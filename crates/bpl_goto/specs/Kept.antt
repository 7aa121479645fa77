-- With its gotos removed a procedure fails as before, from each entry state and with each mark.
use Rattle.std.specs.Prelude.{◌≡◌, ◌↔◌, Contains}
use Rattle.std.specs.List.{AllByRecursion}
use Rattle.flow_core.specs.declared.mark.Mark.{Mark}
use Rattle.flow_core.specs.State.{State}
use Rattle.bpl_model.specs.Module.{Proc, Module}
use Rattle.bpl_model.specs.NoGoto.{BodyHasNoGoto}
use Rattle.bpl_model.specs.Typed.{IsTypedModule}
use Rattle.bpl_model.specs.World.{IsEntry}
use Rattle.bpl_model.specs.Execution.{ExecBody, failed}
use Rattle.bpl_goto.specs.Forward.{AllGoForward}
use Rattle.bpl_goto.specs.Removed.{removed, remove_gotos}

-- q in n fails exactly as p in m does
pub record KeepsFailures (m n : Module) (p q : Proc) : Type 0 where
  pub same : (σ : State) → IsEntry m p σ → (mark : Mark) → ExecBody m p σ (failed mark) ↔ ExecBody n q σ (failed mark)
  pub no_goto : BodyHasNoGoto q.body

abbrev pub RemoveGotosKeepsFailures : Type 0
RemoveGotosKeepsFailures = (m : Module) (p : Proc) → IsTypedModule m → AllGoForward m → Contains m.procs p → KeepsFailures m (remove_gotos m) p (removed p)

-- what the module's type keeps holds of the result
abbrev pub RemoveGotosStaysTyped : Type 0
RemoveGotosStaysTyped = (m : Module) → IsTypedModule m → AllGoForward m → IsTypedModule (remove_gotos m)

-- a module without gotos stays as it is
abbrev pub NothingRemoved : Type 0
NothingRemoved = (m : Module) → AllByRecursion (λ p. BodyHasNoGoto p.body) m.procs → remove_gotos m ≡ m
