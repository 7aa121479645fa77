-- What proofs under way stand for.
use Rattle.std.specs.Prelude.{List, map, reverse}
use Rattle.proof_core.specs.Proof as proofs
use Rattle.proof_core.specs.View.{steps_of}
use Rattle.proof_core.specs.ProofView.{end_of}
use Rattle.tableau.specs.declared.partial.PartialProof.{PartialProof}

abbrev pub partial_of : PartialProof → proofs.Proof
partial_of p = proofs.proof (steps_of (reverse p.steps.items)) (end_of p.end)

-- the proofs under way of a stack whose top is its end
abbrev pub partials_of : List PartialProof → List proofs.Proof
partials_of ps = map partial_of (reverse ps)
