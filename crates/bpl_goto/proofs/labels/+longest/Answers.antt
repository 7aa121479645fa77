use Rattle.std.proofs.Common.{arith, drop-cons}
use Rattle.std.proofs.lemmas.Grind.{common_steps}
use Rattle.bpl_goto.proofs.Loops.{labels_next}
use Rattle.bpl_goto.proofs.labels.+longest.Goals as goal

pub longest_within-loop-stmt-preserved : goal.longest_within-loop-stmt-preserved
longest_within-loop-stmt-preserved t c = grind (arith, common_steps, labels_next, drop-cons)
