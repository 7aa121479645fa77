use Rattle.std.proofs.Common.{refl, arith}
use Rattle.logic_core.specs.Same.{same_patterns}
use Rattle.logic_core.specs.View.{patterns_of}
use Rattle.logic_core.proofs.Ends.{same_at}
use Rattle.numbered_terms.specs.Shaped.{shaped_lists}
use Rattle.numbered_terms.proofs.same.same_lists.Goals as goal

pub returns : goal.returns
returns c = let e = same_at (λ xs ys. same_patterns (patterns_of (shaped_lists xs)) (patterns_of (shaped_lists ys))) refl (λ y ys. refl) (λ x xs. refl) c.args.mine.now c.args.theirs.now c.loop-i.i (omega arith) in cc
