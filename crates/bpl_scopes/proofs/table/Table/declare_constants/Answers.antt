use Rattle.std.proofs.Common.{arith, drop-cons}
use Rattle.std.proofs.lemmas.Grind.{common_steps}
use Rattle.bpl_scopes.proofs.Declared.{constants_next}
use Rattle.bpl_scopes.proofs.table.Table.declare_constants.Goals as goal

pub loop-name-preserved : goal.loop-name-preserved
loop-name-preserved c = grind (arith, common_steps, constants_next, drop-cons)
