use Rattle.std.proofs.Common.{arith, drop-cons}
use Rattle.std.proofs.lemmas.Grind.{common_steps}
use Rattle.bpl_declaration_faults.proofs.VarSteps.{named_next}
use Rattle.bpl_declaration_faults.proofs.variables.push_named.Goals as goal

pub loop-name-preserved : goal.loop-name-preserved
loop-name-preserved c = grind (arith, common_steps, named_next, drop-cons)
