use Rattle.call_cut.proofs.FailuresKept.{cut_calls_keeps_failures as kept}
use Rattle.call_cut.proofs.laws.cut_calls_keeps_failures.Goals as goal

pub returns : goal.returns
returns c = kept
