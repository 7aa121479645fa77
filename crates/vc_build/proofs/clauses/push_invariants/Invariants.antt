use Rattle.std.proofs.Common.{◌≡◌, ◌++◌, drop}
use Rattle.vc_build.specs.Marks.{invariant_marks}
use Rattle.vc_build.proofs.clauses.push_invariants.Given as goal

-- the marks so far, and then those of the invariants that are ahead
abbrev pub invariant-loop-invariant : goal.invariant-loop-invariant
invariant-loop-invariant l = l.marks.items ++ invariant_marks l.kind (drop l.invariant-index l.invariants) ≡ l.fn.marks.items ++ invariant_marks l.kind l.invariants
