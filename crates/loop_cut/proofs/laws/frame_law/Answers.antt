use Rattle.loop_cut.proofs.Frame.{frame_law as holds}
use Rattle.loop_cut.proofs.laws.frame_law.Goals as goal

pub returns : goal.returns
returns c = holds
