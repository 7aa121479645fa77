-- A proof that was written is read again.
use Rattle.std.proofs.Common.{◌≡◌, inl, inr, ℕ, true, List, Ok, Err, refl, ap}
use Rattle.proof_core.specs.Proof.{Proof}
use Rattle.proof_text.specs.Text.{proof_text}
use Rattle.proof_text.specs.Reading.{proof_fits, Spells}
use Rattle.proof_text.specs.RoundTrip.{ReadGivesBack}
use Rattle.proof_text.specs.declared.fault.ProofFault.TheVariants.{BadProof, Memory}
use Rattle.proof_text.proofs.Reader.{one_proof_a_text_has}

-- the bytes of a proof's text, where its numbers are in range
pub spells : (bytes : List ℕ) (p : Proof) → proof_fits p ≡ true → bytes ≡ proof_text p → Spells bytes p
spells bytes p f e = record { in_range = f; text = e }

pub read_gives_back : ReadGivesBack
read_gives_back bytes p s (Ok q) proof fault = inl (ap Ok (one_proof_a_text_has bytes q p proof s))
read_gives_back bytes p s (Err Memory) proof fault = inr refl
read_gives_back bytes p s (Err (BadProof place)) proof fault = absurd (fault.no_text p s)
