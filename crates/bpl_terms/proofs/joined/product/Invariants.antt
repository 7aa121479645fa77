use Rattle.std.proofs.Common.{◌≡◌, reverse, vec_len, pos}
use Rattle.logic_core.specs.Tree.{mul, num}
use Rattle.logic_core.specs.View.{trees_of}
use Rattle.bpl_terms.specs.Terms.{left_of, nested_left}
use Rattle.bpl_terms.proofs.joined.product.Given as goal

abbrev pub invariant-loop-next : goal.invariant-loop-next
invariant-loop-next l = nested_left mul l.whole (trees_of (reverse l.terms.items)) ≡ left_of mul (num (pos 1)) (trees_of l.fn.terms.items)

abbrev pub decreases-loop-next : goal.decreases-loop-next
decreases-loop-next l = vec_len l.terms
