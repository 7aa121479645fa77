use Rattle.proof_core.proofs.QuantifiersSound.{instantiate_is_sound}
use Rattle.proof_core.proofs.soundness.instantiate_is_sound.Goals as goal

pub returns : goal.returns
returns c = instantiate_is_sound
