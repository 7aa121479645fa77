use Rattle.std.proofs.Common.{arith, drop-cons}
use Rattle.std.proofs.lemmas.Grind.{common_steps}
use Rattle.bpl_declaration_faults.proofs.VarSteps.{groups_next}
use Rattle.bpl_statement_faults.proofs.CallSteps.{count_next}
use Rattle.bpl_declaration_faults.proofs.variables.push_group_vars.Goals as goal

pub loop-group-preserved : goal.loop-group-preserved
loop-group-preserved c = grind (arith, common_steps, groups_next, count_next, drop-cons)
