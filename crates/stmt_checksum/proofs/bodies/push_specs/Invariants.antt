use Rattle.std.proofs.Common.{◌≡◌, ◌++◌, length, map}
use Rattle.bpl_dependencies.specs.AppliedView.{variables_seen}
use Rattle.stmt_checksum.specs.Parts.{spec_part}
use Rattle.stmt_checksum.proofs.bodies.push_specs.Given as goal

abbrev pub invariant-loop-spec : goal.invariant-loop-spec
invariant-loop-spec l = l.parts ++ map (spec_part (variables_seen l.variables)) l.rest ≡ l.fn.parts ++ map (spec_part (variables_seen l.variables)) l.list

abbrev pub decreases-loop-spec : goal.decreases-loop-spec
decreases-loop-spec l = length l.rest
