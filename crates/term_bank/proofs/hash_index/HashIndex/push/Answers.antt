use Rattle.std.proofs.Common.{arith}
use Rattle.std.proofs.lemmas.Grind.{common_steps}
use Rattle.term_bank.proofs.Indexed.{indexed_next}
use Rattle.term_bank.proofs.hash_index.HashIndex.push.Goals as goal

pub invariant_of-self-2 : goal.invariant_of-self-2
invariant_of-self-2 c =
    indexed_next c.self.inside.hashes.items c.push.new.self.items c.self.inside.latest.entries c.put_latest.new.latest.entries c.self.inside.earlier.items c.put_earlier.new.earlier.items c.args.hash c.len-place.result c.copied-before.result c.self.invariant
    (grind (arith, common_steps)) (grind (arith, common_steps)) (grind (arith, common_steps)) (grind (arith, common_steps)) (grind (arith, common_steps))
