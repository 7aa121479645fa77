use Rattle.std.proofs.Common.{arith, drop-cons}
use Rattle.std.proofs.lemmas.Grind.{common_steps}
use Rattle.bpl_resolve.proofs.SameBefore.{none_here}
use Rattle.bpl_resolve.proofs.type_fault.first_fault_of.Goals as goal

pub loop-i-preserved : goal.loop-i-preserved
loop-i-preserved c = grind (arith, common_steps, none_here, drop-cons)
