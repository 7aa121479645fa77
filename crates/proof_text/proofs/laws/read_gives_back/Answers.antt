use Rattle.proof_text.proofs.RoundTrip.{read_gives_back as proof}
use Rattle.proof_text.proofs.laws.read_gives_back.Goals as goal

pub returns : goal.returns
returns c = proof
