use Rattle.proof_core.proofs.Sound.{acceptance_is_sound}
use Rattle.proof_core.proofs.soundness.acceptance_is_sound.Goals as goal

pub returns : goal.returns
returns c = acceptance_is_sound
