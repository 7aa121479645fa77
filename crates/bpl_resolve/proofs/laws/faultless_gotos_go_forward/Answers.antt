use Rattle.bpl_resolve.proofs.GoesForward.{goes_forward}
use Rattle.bpl_resolve.proofs.laws.faultless_gotos_go_forward.Goals as goal

pub returns : goal.returns
returns c = goes_forward
