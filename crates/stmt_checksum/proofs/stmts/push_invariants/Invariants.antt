use Rattle.std.proofs.Common.{◌≡◌, ◌++◌, length, map}
use Rattle.bpl_dependencies.specs.AppliedView.{variables_seen}
use Rattle.stmt_checksum.specs.Parts.{invariant_part}
use Rattle.stmt_checksum.proofs.stmts.push_invariants.Given as goal

abbrev pub invariant-loop-invariant : goal.invariant-loop-invariant
invariant-loop-invariant l = l.parts ++ map (invariant_part (variables_seen l.variables)) l.rest ≡ l.fn.parts ++ map (invariant_part (variables_seen l.variables)) l.list

abbrev pub decreases-loop-invariant : goal.decreases-loop-invariant
decreases-loop-invariant l = length l.rest
