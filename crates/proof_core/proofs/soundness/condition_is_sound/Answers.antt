use Rattle.proof_core.proofs.SplitSound.{condition_is_sound}
use Rattle.proof_core.proofs.soundness.condition_is_sound.Goals as goal

pub returns : goal.returns
returns c = condition_is_sound
