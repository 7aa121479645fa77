use Rattle.std.proofs.Common.{arith, drop-cons}
use Rattle.std.proofs.lemmas.Grind.{common_steps}
use Rattle.bpl_faults.proofs.ListedNames.{names_next}
use Rattle.bpl_faults.proofs.listed.push_group_names.Goals as goal

pub loop-group-preserved : goal.loop-group-preserved
loop-group-preserved c = grind (arith, common_steps, names_next, drop-cons)
