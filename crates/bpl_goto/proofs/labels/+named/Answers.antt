use Rattle.std.proofs.Common.{arith, drop-cons}
use Rattle.std.proofs.lemmas.Grind.{common_steps}
use Rattle.bpl_goto.proofs.Loops.{named_next}
use Rattle.bpl_goto.proofs.labels.+named.Goals as goal

pub put_each_named-loop-stmt-preserved : goal.put_each_named-loop-stmt-preserved
put_each_named-loop-stmt-preserved t c = grind (arith, common_steps, named_next, drop-cons)
