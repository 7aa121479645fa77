use Rattle.std.proofs.Common.{◌≡◌, ◌++◌, length, map}
use Rattle.bpl_ast.specs.ExprView.{each_groups_of}
use Rattle.bpl_dependencies.specs.AppliedView.{variables_seen}
use Rattle.stmt_checksum.specs.Parts.{local_part}
use Rattle.stmt_checksum.proofs.bodies.push_locals.Given as goal

abbrev pub invariant-loop-groups : goal.invariant-loop-groups
invariant-loop-groups l = l.parts ++ map (local_part (variables_seen l.variables)) (each_groups_of l.rest) ≡ l.fn.parts ++ map (local_part (variables_seen l.variables)) (each_groups_of l.list)

abbrev pub decreases-loop-groups : goal.decreases-loop-groups
decreases-loop-groups l = length l.rest
