-- What a fault says of the bytes that were read.
use Rattle.std.specs.Prelude.{ℕ, List, ⊤}
use Rattle.proof_text.specs.Reading.{IsBadAt}
use Rattle.proof_text.specs.declared.fault.ProofFault.{ProofFault}
use Rattle.proof_text.specs.declared.fault.ProofFault.TheVariants.{BadProof, Memory}

-- the bytes are no proof's text, and bad at this place; want of memory says nothing
abbrev pub SaysOf : ProofFault → List ℕ → Type 0
SaysOf (BadProof place) bytes = IsBadAt bytes place
SaysOf Memory bytes = ⊤
