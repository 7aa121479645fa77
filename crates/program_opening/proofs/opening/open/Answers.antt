use Rattle.program_opening.proofs.Openings.{short}
use Rattle.program_opening.proofs.opening.open.Goals as goal

pub open_program-requires : goal.open_program-requires
open_program-requires c = short c.args.text.now c.in-Ok.program c.requires c.in-Ok.ensures.ok
