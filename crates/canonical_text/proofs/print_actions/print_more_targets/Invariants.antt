use Rattle.std.proofs.Common.{length}
use Rattle.canonical_text.proofs.WrittenLines.{Leaves}
use Rattle.canonical_text.specs.Lines.{more_targets}
use Rattle.canonical_text.proofs.print_actions.print_more_targets.Given as goal

abbrev pub invariant-loop-target : goal.invariant-loop-target
invariant-loop-target l = Leaves l.fn.line (more_targets l.list) l.line (more_targets l.rest)

abbrev pub decreases-loop-target : goal.decreases-loop-target
decreases-loop-target l = length l.rest
