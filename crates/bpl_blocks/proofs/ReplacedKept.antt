-- Failures are kept of a procedure whose calls are replaced.
use Rattle.std.proofs.Common.{sym, subst}
use Rattle.bpl_model.specs.Module.{Proc, Module}
use Rattle.bpl_model.specs.Typed.{IsTypedModule}
use Rattle.bpl_blocks.specs.Blocks.{to_blocks}
use Rattle.bpl_blocks.specs.Kept.{HasCallsReplaced, KeepsFailures}
use Rattle.bpl_blocks.proofs.ExitLaws.{keeps_failures}
use Rattle.bpl_blocks.proofs.PlainKept.{with_failures}

pub replaced_failures : (m : Module) (p : Proc) → IsTypedModule m → HasCallsReplaced m p → KeepsFailures m p (to_blocks m p)
replaced_failures m p typed h = subst (λ (q : Proc). KeepsFailures m q (to_blocks m q)) (sym h.same) (with_failures m h.from typed h.there (keeps_failures m h.from typed h.there h.no_goto))
