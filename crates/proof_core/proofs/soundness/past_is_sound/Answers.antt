use Rattle.proof_core.proofs.MapsSound.{past_is_sound}
use Rattle.proof_core.proofs.soundness.past_is_sound.Goals as goal

pub returns : goal.returns
returns c = past_is_sound
