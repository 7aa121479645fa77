use Rattle.logic_laws.proofs.RenamedSorts.{renaming_keeps_sorts}
use Rattle.logic_laws.proofs.renaming.renaming_keeps_sorts.Goals as goal

pub returns : goal.returns
returns c = renaming_keeps_sorts
