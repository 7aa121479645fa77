-- What reading gives where a proof was written.
use Rattle.std.specs.Prelude.{◌≡◌, ◌⊎◌, ℕ, List, Result, Ok, Err, IfOk, IfErr}
use Rattle.proof_core.specs.Proof.{Proof}
use Rattle.proof_text.specs.Reading.{Spells}
use Rattle.proof_text.specs.Faults.{SaysOf}
use Rattle.proof_text.specs.declared.fault.ProofFault.{ProofFault}
use Rattle.proof_text.specs.declared.fault.ProofFault.TheVariants.{Memory}

-- where the bytes are a proof's text, what a reader gives is that proof, or there was no memory
abbrev pub ReadGivesBack : Type 0
ReadGivesBack = (bytes : List ℕ) (p : Proof) → Spells bytes p
    → (r : Result Proof ProofFault) → IfOk r (Spells bytes) → IfErr r (λ f. SaysOf f bytes)
    → (r ≡ Ok p) ⊎ (r ≡ Err Memory)
