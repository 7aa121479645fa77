use Rattle.std.proofs.Common.{refl, arith}
use Rattle.logic_core.specs.Same.{same_parts}
use Rattle.logic_core.specs.View.{parts_of}
use Rattle.logic_core.proofs.Ends.{same_at}
use Rattle.numbered_terms.specs.Shaped.{shaped_atoms}
use Rattle.numbered_terms.proofs.same.same_atoms.Goals as goal

pub returns : goal.returns
returns c = let e = same_at (λ xs ys. same_parts (parts_of (shaped_atoms xs)) (parts_of (shaped_atoms ys))) refl (λ y ys. refl) (λ x xs. refl) c.args.mine.now c.args.theirs.now c.loop-i.i (omega arith) in cc
