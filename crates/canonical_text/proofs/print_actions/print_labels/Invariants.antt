use Rattle.std.proofs.Common.{length}
use Rattle.canonical_text.proofs.WrittenLines.{Leaves}
use Rattle.canonical_text.specs.Lines.{labels}
use Rattle.canonical_text.proofs.print_actions.print_labels.Given as goal

abbrev pub invariant-loop-name : goal.invariant-loop-name
invariant-loop-name l = Leaves l.fn.line (labels l.list) l.line (labels l.rest)

abbrev pub decreases-loop-name : goal.decreases-loop-name
decreases-loop-name l = length l.rest
