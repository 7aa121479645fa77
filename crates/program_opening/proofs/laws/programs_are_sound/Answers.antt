use Rattle.program_opening.proofs.Sound.{programs_are_sound as law}
use Rattle.program_opening.proofs.laws.programs_are_sound.Goals as goal

pub returns : goal.returns
returns c = law c.modules_are_sound.ensures c.valid_goals_are_safe.ensures
