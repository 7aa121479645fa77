use Rattle.std.proofs.Common.{refl, arith}
use Rattle.logic_core.specs.View.{trees_of}
use Rattle.logic_terms.specs.Sorts.{are}
use Rattle.logic_core.proofs.Ends.{same_at}
use Rattle.logic_core.proofs.+sorts.Goals as goal

pub sorts::are-returns : goal.sorts::are-returns
sorts::are-returns t c = let e = same_at (λ xs ys. are c.args.vars.now c.args.defs.now c.args.bound.now xs (trees_of ys)) refl (λ y ys. refl) (λ x xs. refl) c.args.sorts.now c.args.terms.now c.loop-i.i (omega arith) in cc
