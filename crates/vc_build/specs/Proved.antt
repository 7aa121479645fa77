-- What accepted proofs of goals show: the goals of a procedure are well-sorted obligations, so each that has an accepted proof is valid.
use Rattle.std.specs.Prelude.{Contains}
use Rattle.std.specs.List.{AllByRecursion}
use Rattle.logic_core.specs.Def.{Obligation}
use Rattle.logic_core.specs.Valid.{Valid}
use Rattle.logic_core.specs.WellSorted.{IsWellSorted}
use Rattle.proof_core.specs.Proof.{Proof}
use Rattle.proof_core.specs.Accepted.{IsAccepted}
use Rattle.bpl_model.specs.Module.{Proc, Module}
use Rattle.bpl_model.specs.Typed.{IsTypedModule}
use Rattle.bpl_goto.specs.Forward.{AllGoForward}
use Rattle.vc_build.specs.Goals.{goals}

-- some proof of the obligation is accepted
abbrev pub HasProof : Obligation → Type 0
HasProof o = (p : Proof) × IsAccepted o p

abbrev pub GoalsAreSorted : Type 0
GoalsAreSorted = (m : Module) (p : Proc) → IsTypedModule m → AllGoForward m → Contains m.procs p → AllByRecursion (λ g. IsWellSorted g.obligation) (goals m p)

abbrev pub ProvedGoalsAreValid : Type 0
ProvedGoalsAreValid = (m : Module) (p : Proc) → IsTypedModule m → AllGoForward m → Contains m.procs p
    → AllByRecursion (λ g. HasProof g.obligation) (goals m p) → AllByRecursion (λ g. Valid g.obligation) (goals m p)
