use Rattle.std.proofs.Common.{arith, drop-cons}
use Rattle.std.proofs.lemmas.Grind.{common_steps}
use Rattle.bpl_dependencies.proofs.NextNumbers.{numbered_next}
use Rattle.bpl_dependencies.proofs.numbers.number_functions.Goals as goal

pub loop-entry-preserved : goal.loop-entry-preserved
loop-entry-preserved c = grind (arith, common_steps, numbered_next, drop-cons)
