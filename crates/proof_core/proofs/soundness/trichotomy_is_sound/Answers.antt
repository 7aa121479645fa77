use Rattle.proof_core.proofs.ArithmeticSound.{trichotomy_is_sound}
use Rattle.proof_core.proofs.soundness.trichotomy_is_sound.Goals as goal

pub returns : goal.returns
returns c = trichotomy_is_sound
