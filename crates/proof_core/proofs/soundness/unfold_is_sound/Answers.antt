use Rattle.proof_core.proofs.ReplaceSound.{unfold_is_sound}
use Rattle.proof_core.proofs.soundness.unfold_is_sound.Goals as goal

pub returns : goal.returns
returns c = unfold_is_sound
