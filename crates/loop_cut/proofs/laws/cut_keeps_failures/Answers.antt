use Rattle.loop_cut.proofs.Failing.{cut_keeps_failures as kept}
use Rattle.loop_cut.proofs.laws.cut_keeps_failures.Goals as goal

pub returns : goal.returns
returns c = kept
