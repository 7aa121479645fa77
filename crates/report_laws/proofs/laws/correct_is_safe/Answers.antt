use Rattle.report_laws.proofs.CorrectProcs.{correct_is_safe as law}
use Rattle.report_laws.proofs.laws.correct_is_safe.Goals as goal

pub returns : goal.returns
returns c = law c.declared_correct_is_safe.ensures
