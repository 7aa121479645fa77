use Rattle.std.proofs.Common.{arith, drop-cons}
use Rattle.std.proofs.lemmas.Grind.{common_steps}
use Rattle.bpl_statement_faults.proofs.CallSteps.{count_next}
use Rattle.bpl_statement_faults.proofs.calls.count_names.Goals as goal

pub loop-group-preserved : goal.loop-group-preserved
loop-group-preserved c = grind (arith, common_steps, count_next, drop-cons)
