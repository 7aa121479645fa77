use Rattle.proof_core.proofs.SplitSound.{cases_are_sound}
use Rattle.proof_core.proofs.soundness.cases_are_sound.Goals as goal

pub returns : goal.returns
returns c = cases_are_sound
