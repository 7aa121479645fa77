use Rattle.proof_core.proofs.MapsSound.{back_is_sound}
use Rattle.proof_core.proofs.soundness.back_is_sound.Goals as goal

pub returns : goal.returns
returns c = back_is_sound
