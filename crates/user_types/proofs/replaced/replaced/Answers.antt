use Rattle.std.proofs.Common.{arith, drop-cons}
use Rattle.std.proofs.lemmas.Grind.{common_steps}
use Rattle.user_types.proofs.Listed.{replaced_next}
use Rattle.user_types.proofs.replaced.replaced.Goals as goal

pub loop-decl-preserved : goal.loop-decl-preserved
loop-decl-preserved c = grind (arith, common_steps, replaced_next, drop-cons)
