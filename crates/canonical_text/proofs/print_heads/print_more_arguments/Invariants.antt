use Rattle.std.proofs.Common.{length}
use Rattle.canonical_text.proofs.WrittenLines.{Leaves}
use Rattle.canonical_text.specs.Lines.{more_arguments}
use Rattle.canonical_text.proofs.print_heads.print_more_arguments.Given as goal

abbrev pub invariant-loop-argument : goal.invariant-loop-argument
invariant-loop-argument l = Leaves l.fn.line (more_arguments l.list) l.line (more_arguments l.rest)

abbrev pub decreases-loop-argument : goal.decreases-loop-argument
decreases-loop-argument l = length l.rest
