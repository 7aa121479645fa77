use Rattle.recheck_report.proofs.OneAnswers.{one_answer as law}
use Rattle.recheck_report.proofs.laws.one_answer.Goals as goal

pub returns : goal.returns
returns c = law c.one_proof_a_text_has.ensures c.one_bad_place.ensures
