use Rattle.std.proofs.Common.{arith}
use Rattle.std.proofs.lemmas.Grind.{common_steps}
use Rattle.request_text.proofs.Joined.{two_more, one_more}
use Rattle.request_text.proofs.generator.generate.Goals as goal

pub loop-k-preserved : goal.loop-k-preserved
loop-k-preserved c = grind (arith, common_steps, two_more, one_more)
