use Rattle.std.proofs.Common.{length}
use Rattle.canonical_text.proofs.WrittenLines.{Leaves}
use Rattle.bpl_ast.specs.ExprView.{exprs_of}
use Rattle.canonical_text.specs.Lines.{entries}
use Rattle.canonical_text.proofs.print_actions.print_entries.Given as goal

abbrev pub invariant-loop-x : goal.invariant-loop-x
invariant-loop-x l = Leaves l.fn.line (entries (exprs_of l.indices)) l.line (entries (exprs_of l.rest))

abbrev pub decreases-loop-x : goal.decreases-loop-x
decreases-loop-x l = length l.rest
