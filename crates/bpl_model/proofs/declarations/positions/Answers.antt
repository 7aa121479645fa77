use Rattle.std.proofs.Common.{arith}
use Rattle.std.proofs.lemmas.Grind.{common_steps}
use Rattle.bpl_model.proofs.Members.{numbers_more}
use Rattle.bpl_model.proofs.declarations.positions.Goals as goal

pub loop-i-preserved : goal.loop-i-preserved
loop-i-preserved c = let e = numbers_more c.loop-i.i in grind (arith, common_steps, e)
