use Rattle.proof_core.proofs.CloseSound.{close_is_sound}
use Rattle.proof_core.proofs.soundness.close_is_sound.Goals as goal

pub returns : goal.returns
returns c = close_is_sound
