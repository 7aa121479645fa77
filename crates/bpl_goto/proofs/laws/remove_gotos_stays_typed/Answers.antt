use Rattle.bpl_goto.proofs.StaysTyped.{remove_gotos_stays_typed}
use Rattle.bpl_goto.proofs.laws.remove_gotos_stays_typed.Goals as goal

pub returns : goal.returns
returns c = remove_gotos_stays_typed
