use Rattle.std.proofs.Common.{arith, drop-cons}
use Rattle.std.proofs.lemmas.Grind.{common_steps}
use Rattle.bpl_statement_faults.proofs.StmtSteps.{entry_next, entry_sort_next}
use Rattle.bpl_statement_faults.proofs.targets.note_entry.Goals as goal

pub loop-index-preserved : goal.loop-index-preserved
loop-index-preserved c = grind (arith, common_steps, entry_next, entry_sort_next, drop-cons)
