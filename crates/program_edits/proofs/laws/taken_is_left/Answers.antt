use Rattle.program_edits.proofs.Leaving.{taken_is_left}
use Rattle.program_edits.proofs.laws.taken_is_left.Goals as goal

pub returns : goal.returns
returns c = taken_is_left
