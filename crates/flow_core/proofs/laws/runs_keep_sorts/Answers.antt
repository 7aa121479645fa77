use Rattle.flow_core.proofs.SortedStates.{runs_keep_sorts as kept}
use Rattle.flow_core.proofs.laws.runs_keep_sorts.Goals as goal

pub returns : goal.returns
returns c = kept
