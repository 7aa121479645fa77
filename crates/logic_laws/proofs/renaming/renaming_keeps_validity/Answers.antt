use Rattle.logic_laws.proofs.RenamedValidity.{renaming_keeps_validity}
use Rattle.logic_laws.proofs.renaming.renaming_keeps_validity.Goals as goal

pub returns : goal.returns
returns c = renaming_keeps_validity
