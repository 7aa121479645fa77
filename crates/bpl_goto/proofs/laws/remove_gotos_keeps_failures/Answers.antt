use Rattle.bpl_goto.proofs.BothWays.{remove_gotos_keeps_failures}
use Rattle.bpl_goto.proofs.laws.remove_gotos_keeps_failures.Goals as goal

pub returns : goal.returns
returns c = remove_gotos_keeps_failures
