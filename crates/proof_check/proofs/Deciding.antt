-- The verdict decides which proofs are accepted.
use Rattle.std.proofs.Common.{refl, subst}
use Rattle.std.specs.Prelude.{◌≢◌, Result, Ok, Err, IsOk, IfErr}
use Rattle.logic_core.specs.Def.{Obligation}
use Rattle.proof_core.specs.Proof.{Proof}
use Rattle.proof_core.specs.Accepted.{IsAccepted}
use Rattle.proof_core.specs.Verdict.{verdict}
use Rattle.proof_core.proofs.Judged.{refuses_the_others}
use Rattle.proof_check.specs.declared.fault.CheckFault.{CheckFault}
use Rattle.proof_check.specs.declared.fault.CheckFault.TheVariants.{Memory, Rejected}
use Rattle.proof_check.specs.Checked.{Judges}

-- of an accepted proof no node is refused
pub not_accepted : {A : Type 0} (r : Result A CheckFault) (o : Obligation) (p : Proof) → Judges r (verdict o p) → IfErr r (λ e. e ≢ Memory → ¬ IsAccepted o p)
not_accepted (Ok a) o p h = tt
not_accepted (Err Memory) o p h = λ other. absurd (other refl)
not_accepted (Err (Rejected n r)) o p h = λ other accepted. let fine : IsOk (verdict o p) = (refuses_the_others o p).1 accepted in absurd (let no = subst IsOk h fine in cc)
