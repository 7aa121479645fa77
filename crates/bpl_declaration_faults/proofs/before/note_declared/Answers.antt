use Rattle.std.proofs.Common.{arith, drop-cons}
use Rattle.std.proofs.lemmas.Grind.{common_steps}
use Rattle.bpl_faults.proofs.ListedNames.{again_next}
use Rattle.bpl_declaration_faults.proofs.before.note_declared.Goals as goal

pub loop-name-preserved : goal.loop-name-preserved
loop-name-preserved c = grind (arith, common_steps, again_next, drop-cons)
