use Rattle.std.proofs.Common.{◌≡◌, drop}
use Rattle.logic_core.specs.View.{parts_of}
use Rattle.numbered_terms.specs.Shaped.{shaped_atoms}
use Rattle.logic_core.specs.Same.{same_parts}
use Rattle.numbered_terms.proofs.same.same_atoms.Given as goal

abbrev pub invariant-loop-i : goal.invariant-loop-i
invariant-loop-i l = same_parts (parts_of (shaped_atoms (drop l.i l.mine))) (parts_of (shaped_atoms (drop l.i l.theirs))) ≡ same_parts (parts_of (shaped_atoms l.mine)) (parts_of (shaped_atoms l.theirs))
