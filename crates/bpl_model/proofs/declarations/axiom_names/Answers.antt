use Rattle.std.proofs.Common.{◌+◌, arith}
use Rattle.std.proofs.lemmas.Grind.{common_steps}
use Rattle.std.proofs.lemmas.List.FromFn.{map-range_with_len_more}
use Rattle.bpl_model.specs.Reach.{axiom_name}
use Rattle.bpl_model.proofs.declarations.axiom_names.Goals as goal

pub loop-k-preserved : goal.loop-k-preserved
loop-k-preserved c = let e = map-range_with_len_more axiom_name 1 c.loop-k.k (c.loop-k.k + 1) (omega arith) in grind (arith, common_steps, e)
