use Rattle.std.proofs.Common.{◌≡◌}
use Rattle.proof_text.specs.TermStates.{nested}
use Rattle.proof_text.proofs.quantifier_sorts.nested.Given as goal

-- what is left to do makes of the sort so far the whole
abbrev pub invariant-loop-left : goal.invariant-loop-left
invariant-loop-left l = nested l.left l.sort ≡ nested l.depth l.fn.range

abbrev pub decreases-loop-left : goal.decreases-loop-left
decreases-loop-left l = l.left
