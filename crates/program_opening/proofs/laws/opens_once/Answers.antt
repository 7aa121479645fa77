use Rattle.program_opening.proofs.Texts.{opens_once as law}
use Rattle.program_opening.proofs.laws.opens_once.Goals as goal

pub returns : goal.returns
returns c = law c.programs_are_unique.ensures c.faults_are_found.ensures
