use Rattle.block_wp.proofs.laws.equations_break.Goals as goal
use Rattle.block_wp.proofs.Breaks.{equations_break as law}

pub returns : goal.returns
returns c = law
