use Rattle.std.proofs.Common.{arith}
use Rattle.std.proofs.lemmas.Grind.{common_steps}
use Rattle.user_types.proofs.Listed.{counted_more}
use Rattle.user_types.proofs.constants.make_room.Goals as goal

pub loop-more-preserved : goal.loop-more-preserved
loop-more-preserved c = grind (arith, common_steps, counted_more)
