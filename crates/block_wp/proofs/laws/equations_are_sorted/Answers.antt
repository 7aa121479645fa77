use Rattle.block_wp.proofs.laws.equations_are_sorted.Goals as goal
use Rattle.block_wp.proofs.SortedLaws.{equations_are_sorted as law}

pub returns : goal.returns
returns c = law
