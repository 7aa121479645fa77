use Rattle.std.proofs.Common.{◌≡◌, drop}
use Rattle.logic_core.specs.Same.{same_trees}
use Rattle.logic_core.specs.View.{trees_of}
use Rattle.plain_search.proofs.instantiating.same_terms.Given as goal

abbrev pub invariant-loop-i : goal.invariant-loop-i
invariant-loop-i l = same_trees (trees_of (drop l.i l.mine)) (trees_of (drop l.i l.theirs)) ≡ same_trees (trees_of l.mine) (trees_of l.theirs)
