use Rattle.proof_text.proofs.BadPlaces.{one_bad_place as proof}
use Rattle.proof_text.proofs.laws.one_bad_place.Goals as goal

pub returns : goal.returns
returns c = proof
