use Rattle.proof_text.proofs.Reader.{one_proof_a_text_has as proof}
use Rattle.proof_text.proofs.laws.one_proof_a_text_has.Goals as goal

pub returns : goal.returns
returns c = proof
