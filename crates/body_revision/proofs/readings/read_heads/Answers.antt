use Rattle.std.proofs.Common.{arith, drop-cons}
use Rattle.std.proofs.lemmas.Grind.{common_steps}
use Rattle.body_revision.proofs.HeadNames.{heads_next}
use Rattle.body_revision.proofs.readings.read_heads.Goals as goal

pub loop-decl-preserved : goal.loop-decl-preserved
loop-decl-preserved c = grind (arith, common_steps, heads_next, drop-cons)
