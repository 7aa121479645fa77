use Rattle.std.proofs.Common.{All}
use Rattle.logic_core.specs.WellSorted.{IsFormula}
use Rattle.proof_tests.proofs.tests.obligations.checked.Given as goal

-- all terms so far are formulas
abbrev pub invariant-loop-term : goal.invariant-loop-term
invariant-loop-term l = All (IsFormula l.sig.vars l.sig.defs) l.found
