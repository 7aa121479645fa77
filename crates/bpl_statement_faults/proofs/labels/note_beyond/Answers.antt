use Rattle.std.proofs.Common.{arith, drop-cons}
use Rattle.std.proofs.lemmas.Grind.{common_steps}
use Rattle.bpl_statement_faults.proofs.LabelSteps.{beyond_next}
use Rattle.bpl_statement_faults.proofs.labels.note_beyond.Goals as goal

pub loop-label-preserved : goal.loop-label-preserved
loop-label-preserved c = grind (arith, common_steps, beyond_next, drop-cons)
