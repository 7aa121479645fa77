use Rattle.proof_core.proofs.ArithmeticSound.{tighten_is_sound}
use Rattle.proof_core.proofs.soundness.tighten_is_sound.Goals as goal

pub returns : goal.returns
returns c = tighten_is_sound
