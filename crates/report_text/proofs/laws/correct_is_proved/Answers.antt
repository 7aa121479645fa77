use Rattle.report_text.proofs.SaysCorrect.{correct_is_proved as proof}
use Rattle.report_text.proofs.laws.correct_is_proved.Goals as goal

pub returns : goal.returns
returns c = proof
