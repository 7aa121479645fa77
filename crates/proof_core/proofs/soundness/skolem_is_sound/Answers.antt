use Rattle.proof_core.proofs.QuantifiersSound.{skolem_is_sound}
use Rattle.proof_core.proofs.soundness.skolem_is_sound.Goals as goal

pub returns : goal.returns
returns c = skolem_is_sound
