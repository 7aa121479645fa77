use Rattle.std.proofs.Common.{ℤ, ℕ, refl}
use Rattle.numbered_terms.proofs.Mapping.{map_next}
use Rattle.numbered_terms.proofs.renumber.atom_numbers.Goals as goal

pub loop-part-preserved : goal.loop-part-preserved
loop-part-preserved c = map_next (λ (p : ℤ × ℕ). p.1) c.args.parts.now _ _ c.loop-part.part-index c.part-item.result _ c.loop-part-test.true c.part-item.is c.in_ok-push.ensures.items c.loop-part.invariant refl
