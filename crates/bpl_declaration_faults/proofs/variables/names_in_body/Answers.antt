use Rattle.std.proofs.Common.{arith, drop-cons}
use Rattle.std.proofs.lemmas.Grind.{common_steps}
use Rattle.bpl_declaration_faults.proofs.VarSteps.{local_names_next}
use Rattle.bpl_declaration_faults.proofs.variables.names_in_body.Goals as goal

pub loop-groups-preserved : goal.loop-groups-preserved
loop-groups-preserved c = grind (arith, common_steps, local_names_next, drop-cons)
