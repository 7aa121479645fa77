use Rattle.std.proofs.Common.{refl, arith}
use Rattle.logic_core.proofs.Ends.{same_at}
use Rattle.numbered_facts.specs.Heads.{same_heads}
use Rattle.numbered_facts.proofs.heads.same_heads.Goals as goal

pub returns : goal.returns
returns c = let e = same_at same_heads refl (λ y ys. refl) (λ x xs. refl) c.args.mine.now c.args.theirs.now c.loop-i.i (omega arith) in cc
