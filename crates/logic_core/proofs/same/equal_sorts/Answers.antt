use Rattle.std.proofs.Common.{refl, arith}
use Rattle.logic_terms.specs.Same.{same_kinds}
use Rattle.logic_core.proofs.Ends.{same_at}
use Rattle.logic_core.proofs.same.equal_sorts.Goals as goal

pub returns : goal.returns
returns c = let e = same_at same_kinds refl (λ y ys. refl) (λ x xs. refl) c.args.mine.now c.args.theirs.now c.loop-i.i (omega arith) in cc
