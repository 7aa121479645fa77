use Rattle.std.proofs.Common.{arith, drop-cons}
use Rattle.std.proofs.lemmas.Grind.{common_steps}
use Rattle.bpl_dependencies.proofs.NextNames.{texts_next}
use Rattle.bpl_texts.proofs.uses.push_group_texts.Goals as goal

pub loop-group-preserved : goal.loop-group-preserved
loop-group-preserved c = grind (arith, common_steps, texts_next, drop-cons)
