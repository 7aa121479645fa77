use Rattle.proof_core.proofs.Judged.{refuses_the_others}
use Rattle.proof_core.proofs.soundness.refuses_the_others.Goals as goal

pub returns : goal.returns
returns c = refuses_the_others
