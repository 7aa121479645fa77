use Rattle.std.proofs.Common.{FitsSigned, rules, refl, ℤ, ℕ}
use Rattle.std.specs.Int.{w128}
use Rattle.std.proofs.lemmas.Int.{to_z-of_z}
use Rattle.numbered_terms.specs.Renumbered.{new_of}
use Rattle.numbered_terms.proofs.Mapping.{map_next}
use Rattle.numbered_terms.proofs.renumber.new_atoms.Goals as goal

pub loop-part-preserved : goal.loop-part-preserved
loop-part-preserved c =
    let fits : FitsSigned w128 c.part-item.result.0 = search rules in
    map_next {B = ℤ × ℕ} (λ (p : ℤ × ℕ). (p.0, new_of c.args.found.now.entries p.1)) c.args.parts.now _ _ c.loop-part.part-index c.part-item.result _ c.loop-part-test.true c.part-item.is c.in_ok-push.ensures.items c.loop-part.invariant
    (rw (to_z-of_z w128 _ fits, c.new_number.ensures) refl)
