use Rattle.proof_core.proofs.CloseSound.{start_is_sound}
use Rattle.proof_core.proofs.soundness.start_is_sound.Goals as goal

pub returns : goal.returns
returns c = start_is_sound
