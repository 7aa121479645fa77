use Rattle.program_edits.proofs.Readings.{one_edit}
use Rattle.program_edits.proofs.laws.one_edit.Goals as goal

pub returns : goal.returns
returns c = one_edit
