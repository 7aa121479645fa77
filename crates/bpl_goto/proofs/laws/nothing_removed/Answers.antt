use Rattle.bpl_goto.proofs.NothingRemoved.{same_module}
use Rattle.bpl_goto.proofs.laws.nothing_removed.Goals as goal

pub returns : goal.returns
returns c = same_module
