use Rattle.std.proofs.Common.{arith, drop-cons}
use Rattle.std.proofs.lemmas.Grind.{common_steps}
use Rattle.bpl_scopes.proofs.Declared.{globals_next}
use Rattle.bpl_scopes.proofs.table.Table.declare_globals.Goals as goal

pub loop-name-preserved : goal.loop-name-preserved
loop-name-preserved c = grind (arith, common_steps, globals_next, drop-cons)
