use Rattle.canonical_text.proofs.ProgramReads.{programs_back}
use Rattle.canonical_text.proofs.laws.programs_are_read_back.Goals as goal

pub returns : goal.returns
returns c = λ ds w s. programs_back ds w s
