use Rattle.std.proofs.Common.{arith, drop-cons}
use Rattle.std.proofs.lemmas.Grind.{common_steps}
use Rattle.bpl_goto.proofs.Loops.{longest_next}
use Rattle.bpl_goto.proofs.labels.longest_of.Goals as goal

pub loop-name-preserved : goal.loop-name-preserved
loop-name-preserved c = grind (arith, common_steps, longest_next, drop-cons)
