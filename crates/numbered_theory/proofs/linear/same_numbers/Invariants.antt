use Rattle.std.proofs.Common.{◌≡◌, drop}
use Rattle.logic_core.specs.Same.{same_parts}
use Rattle.logic_core.specs.View.{parts_of}
use Rattle.numbered_terms.specs.Shaped.{shaped_atoms}
use Rattle.theory_rules.specs.Counting.{counted_parts}
use Rattle.numbered_theory.proofs.linear.same_numbers.Given as goal

abbrev pub invariant-loop-i : goal.invariant-loop-i
invariant-loop-i l = same_parts (counted_parts l.turned (parts_of (shaped_atoms (drop l.i l.mine)))) (parts_of (shaped_atoms (drop l.i l.theirs))) ≡ same_parts (counted_parts l.turned (parts_of (shaped_atoms l.mine))) (parts_of (shaped_atoms l.theirs))
