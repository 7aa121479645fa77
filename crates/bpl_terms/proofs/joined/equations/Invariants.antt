use Rattle.std.proofs.Common.{◌≡◌, reverse, vec_len, true}
use Rattle.logic_core.specs.Tree.{equal, truth}
use Rattle.logic_core.specs.View.{trees_of}
use Rattle.bpl_terms.specs.Terms.{left_of, nested_left}
use Rattle.bpl_terms.proofs.joined.equations.Given as goal

abbrev pub invariant-loop-next : goal.invariant-loop-next
invariant-loop-next l = nested_left equal l.whole (trees_of (reverse l.terms.items)) ≡ left_of equal (truth true) (trees_of l.fn.terms.items)

abbrev pub decreases-loop-next : goal.decreases-loop-next
decreases-loop-next l = vec_len l.terms
