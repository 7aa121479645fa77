use Rattle.program_opening.proofs.Sound.{declared_modules_are_sound as law}
use Rattle.program_opening.proofs.laws.declared_modules_are_sound.Goals as goal

pub returns : goal.returns
returns c = law c.faultless_modules_are_typed.ensures c.faultless_gotos_go_forward.ensures
