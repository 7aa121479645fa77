use Rattle.proof_core.proofs.ReplaceSound.{replace_is_sound}
use Rattle.proof_core.proofs.soundness.replace_is_sound.Goals as goal

pub returns : goal.returns
returns c = replace_is_sound
