-- What is kept, of a module that is the one without gotos.
use Rattle.std.proofs.Common.{◌≡◌, sym, subst, ◌∙◌}
use Rattle.std.specs.Prelude.{Contains}
use Rattle.bpl_model.specs.Module.{Proc, Module}
use Rattle.bpl_model.specs.Typed.{IsTypedModule}
use Rattle.bpl_goto.specs.Forward.{AllGoForward}
use Rattle.bpl_goto.specs.Removed.{removed, remove_gotos}
use Rattle.bpl_goto.specs.Kept.{KeepsFailures}
use Rattle.bpl_goto.proofs.BothWays.{remove_gotos_keeps_failures}
use Rattle.bpl_goto.proofs.StaysTyped.{remove_gotos_stays_typed}

pub stays_typed : (m was r : Module) → was ≡ m → r ≡ remove_gotos was → IsTypedModule was → AllGoForward m → IsTypedModule r
stays_typed m was r same made typed forward = subst IsTypedModule (sym made) (remove_gotos_stays_typed was typed (subst AllGoForward (sym same) forward))

pub keeps_failures : (m was n : Module) → was ≡ m → n ≡ remove_gotos was → IsTypedModule was → AllGoForward m → (p : Proc) → Contains m.procs p → KeepsFailures m n p (removed p)
keeps_failures m was n same made typed forward p there =
    subst (λ (x : Module). KeepsFailures m x p (removed p)) (sym (made ∙ (λ i. remove_gotos (same i)))) (remove_gotos_keeps_failures m p (subst IsTypedModule same typed) forward there)
