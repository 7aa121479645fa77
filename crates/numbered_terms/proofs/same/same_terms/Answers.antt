use Rattle.std.proofs.Common.{refl, arith}
use Rattle.logic_core.specs.Same.{same_trees}
use Rattle.logic_core.specs.View.{trees_of}
use Rattle.logic_core.proofs.Ends.{same_at}
use Rattle.numbered_terms.specs.Shaped.{shaped}
use Rattle.numbered_terms.proofs.same.same_terms.Goals as goal

pub returns : goal.returns
returns c = let e = same_at (λ xs ys. same_trees (trees_of (shaped xs)) (trees_of (shaped ys))) refl (λ y ys. refl) (λ x xs. refl) c.args.mine.now c.args.theirs.now c.loop-i.i (omega arith) in cc
