use Rattle.std.proofs.Common.{◌≡◌, ◌++◌, drop}
use Rattle.std.specs.Prelude.{zip}
use Rattle.call_cut.proofs.assignment.pairs.Given as goal

-- the pairs so far, and then those that are ahead
abbrev pub invariant-loop-i : goal.invariant-loop-i
invariant-loop-i l = l.pairs.items ++ zip (drop l.i l.vars) (drop l.i l.terms) ≡ zip l.vars l.terms
