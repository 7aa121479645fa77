use Rattle.program_opening.proofs.Sound.{modules_are_sound as law}
use Rattle.program_opening.proofs.laws.modules_are_sound.Goals as goal

pub returns : goal.returns
returns c = law c.declared_modules_are_sound.ensures
