use Rattle.std.proofs.Common.{◌≡◌, drop}
use Rattle.logic_core.specs.Same.{same_parts}
use Rattle.logic_core.specs.View.{parts_of}
use Rattle.theory_rules.specs.Counting.{counted_parts}
use Rattle.plain_search.proofs.entries.same_parts.Given as goal

abbrev pub invariant-loop-i : goal.invariant-loop-i
invariant-loop-i l = same_parts (counted_parts l.turned (parts_of (drop l.i l.mine))) (parts_of (drop l.i l.theirs)) ≡ same_parts (counted_parts l.turned (parts_of l.mine)) (parts_of l.theirs)
