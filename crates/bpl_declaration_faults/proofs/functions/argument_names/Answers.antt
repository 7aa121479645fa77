use Rattle.std.proofs.Common.{arith, drop-cons}
use Rattle.std.proofs.lemmas.Grind.{common_steps}
use Rattle.bpl_declaration_faults.proofs.DeclSteps.{arguments_next}
use Rattle.bpl_declaration_faults.proofs.functions.argument_names.Goals as goal

pub loop-argument-preserved : goal.loop-argument-preserved
loop-argument-preserved c = grind (arith, common_steps, arguments_next, drop-cons)
