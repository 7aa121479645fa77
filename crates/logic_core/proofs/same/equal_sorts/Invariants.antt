use Rattle.std.proofs.Common.{◌≡◌, drop}
use Rattle.logic_terms.specs.Same.{same_kinds}
use Rattle.logic_core.proofs.same.equal_sorts.Given as goal

abbrev pub invariant-loop-i : goal.invariant-loop-i
invariant-loop-i l = same_kinds (drop l.i l.mine) (drop l.i l.theirs) ≡ same_kinds l.mine l.theirs
