use Rattle.std.proofs.Common.{◌≡◌, drop}
use Rattle.logic_core.specs.View.{patterns_of}
use Rattle.numbered_terms.specs.Shaped.{shaped_lists}
use Rattle.logic_core.specs.Same.{same_patterns}
use Rattle.numbered_terms.proofs.same.same_lists.Given as goal

abbrev pub invariant-loop-i : goal.invariant-loop-i
invariant-loop-i l = same_patterns (patterns_of (shaped_lists (drop l.i l.mine))) (patterns_of (shaped_lists (drop l.i l.theirs))) ≡ same_patterns (patterns_of (shaped_lists l.mine)) (patterns_of (shaped_lists l.theirs))
