use Rattle.std.proofs.Common.{FitsSigned, refl, arith, rules}
use Rattle.std.specs.Int.{w128}
use Rattle.std.proofs.lemmas.Int.{to_z-of_z}
use Rattle.std.proofs.lemmas.Grind.{common_steps}
use Rattle.term_bank.proofs.Hashes.{parts_next}
use Rattle.term_bank.proofs.hash.+hash.Goals as goal

pub hash_parts-loop-part-preserved : goal.hash_parts-loop-part-preserved
hash_parts-loop-part-preserved t c = let fits : FitsSigned w128 c.part-item.result.0 = search rules in record {
  mixes = parts_next c.args.parts.now c.loop-part.part-index c.loop-part.mixed c.mix-mixed.result c.part-item.result _ c.loop-part-test.true c.part-item.is c.loop-part.invariant.mixes
      (rw (c.mix-mixed.ensures, c.mix.ensures, c.hash.ensures, c.number_hash.ensures, to_z-of_z w128 _ fits) refl);
  less = grind (arith, common_steps);
}
