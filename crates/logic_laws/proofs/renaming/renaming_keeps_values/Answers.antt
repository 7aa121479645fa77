use Rattle.logic_laws.proofs.RenamedCalls.{renaming_keeps_values}
use Rattle.logic_laws.proofs.renaming.renaming_keeps_values.Goals as goal

pub returns : goal.returns
returns c = renaming_keeps_values
