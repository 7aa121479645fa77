use Rattle.std.proofs.Common.{refl, arith}
use Rattle.logic_core.specs.View.{trees_of, parts_of, patterns_of, each_items}
use Rattle.logic_terms.specs.Same.{same_trees, same_parts, same_patterns}
use Rattle.logic_core.proofs.Ends.{same_at}
use Rattle.logic_core.proofs.+same.Goals as goal

pub same::equal_parts-returns : goal.same::equal_parts-returns
same::equal_parts-returns t c = let e = same_at (λ xs ys. same_parts (parts_of xs) (parts_of ys)) refl (λ y ys. refl) (λ x xs. refl) c.args.mine.now c.args.theirs.now c.loop-i.i (omega arith) in cc

pub same::equal_patterns-returns : goal.same::equal_patterns-returns
same::equal_patterns-returns t c = let e = same_at (λ xs ys. same_patterns (patterns_of (each_items xs)) (patterns_of (each_items ys))) refl (λ y ys. refl) (λ x xs. refl) c.args.mine.now c.args.theirs.now c.loop-i.i (omega arith) in cc

pub same::equal_terms-returns : goal.same::equal_terms-returns
same::equal_terms-returns t c = let e = same_at (λ xs ys. same_trees (trees_of xs) (trees_of ys)) refl (λ y ys. refl) (λ x xs. refl) c.args.mine.now c.args.theirs.now c.loop-i.i (omega arith) in cc
