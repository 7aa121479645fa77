use Rattle.program_opening.proofs.Texts.{opens_something as law}
use Rattle.program_opening.proofs.laws.opens_something.Goals as goal

pub returns : goal.returns
returns c = law c.programs_are_exact.ensures
