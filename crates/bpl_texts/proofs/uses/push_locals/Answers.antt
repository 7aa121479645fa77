use Rattle.std.proofs.Common.{arith, drop-cons}
use Rattle.std.proofs.lemmas.Grind.{common_steps}
use Rattle.bpl_texts.proofs.Names.{both_texts}
use Rattle.bpl_texts.proofs.uses.push_locals.Goals as goal

pub loop-groups-preserved : goal.loop-groups-preserved
loop-groups-preserved c = grind (arith, common_steps, both_texts, drop-cons)
