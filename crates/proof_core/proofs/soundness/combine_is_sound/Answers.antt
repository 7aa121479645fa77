use Rattle.proof_core.proofs.ArithmeticSound.{combine_is_sound}
use Rattle.proof_core.proofs.soundness.combine_is_sound.Goals as goal

pub returns : goal.returns
returns c = combine_is_sound
