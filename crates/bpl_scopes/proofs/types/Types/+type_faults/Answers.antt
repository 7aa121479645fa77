use Rattle.std.proofs.Common.{arith, drop-cons}
use Rattle.std.proofs.lemmas.Grind.{common_steps}
use Rattle.bpl_scopes.proofs.TypeSteps.{types_next}
use Rattle.bpl_scopes.proofs.types.Types.+type_faults.Goals as goal

pub note_types-loop-of-preserved : goal.note_types-loop-of-preserved
note_types-loop-of-preserved t c = grind (arith, common_steps, types_next, drop-cons)
