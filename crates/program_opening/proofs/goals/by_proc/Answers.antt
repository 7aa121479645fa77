use Rattle.program_opening.proofs.Counted.{enough}
use Rattle.program_opening.proofs.goals.by_proc.Goals as goal

pub taken-requires : goal.taken-requires
taken-requires c = enough c.args.module.now c.args.counts.now c.loop-i.left.items c.loop-i.i c.requires.counts c.loop-i.invariant.ahead
