use Rattle.std.proofs.Common.{arith, drop-cons}
use Rattle.std.proofs.lemmas.Grind.{common_steps}
use Rattle.bpl_scopes.proofs.TypeSteps.{group_types_next}
use Rattle.bpl_scopes.proofs.types.Types.note_group_types.Goals as goal

pub loop-group-preserved : goal.loop-group-preserved
loop-group-preserved c = grind (arith, common_steps, group_types_next, drop-cons)
