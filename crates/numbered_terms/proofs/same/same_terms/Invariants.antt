use Rattle.std.proofs.Common.{◌≡◌, drop}
use Rattle.logic_core.specs.View.{trees_of}
use Rattle.numbered_terms.specs.Shaped.{shaped}
use Rattle.logic_core.specs.Same.{same_trees}
use Rattle.numbered_terms.proofs.same.same_terms.Given as goal

abbrev pub invariant-loop-i : goal.invariant-loop-i
invariant-loop-i l = same_trees (trees_of (shaped (drop l.i l.mine))) (trees_of (shaped (drop l.i l.theirs))) ≡ same_trees (trees_of (shaped l.mine)) (trees_of (shaped l.theirs))
