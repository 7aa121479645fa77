use Rattle.proof_core.proofs.MapsSound.{differ_is_sound}
use Rattle.proof_core.proofs.soundness.differ_is_sound.Goals as goal

pub returns : goal.returns
returns c = differ_is_sound
