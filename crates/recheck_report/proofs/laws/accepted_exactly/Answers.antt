use Rattle.recheck_report.proofs.ExactAnswers.{accepted_exactly as law}
use Rattle.recheck_report.proofs.laws.accepted_exactly.Goals as goal

pub returns : goal.returns
returns c = law c.one_proof_a_text_has.ensures c.one_bad_place.ensures
