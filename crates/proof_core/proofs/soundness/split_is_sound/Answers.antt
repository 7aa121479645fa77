use Rattle.proof_core.proofs.SplitSound.{split_is_sound}
use Rattle.proof_core.proofs.soundness.split_is_sound.Goals as goal

pub returns : goal.returns
returns c = split_is_sound
