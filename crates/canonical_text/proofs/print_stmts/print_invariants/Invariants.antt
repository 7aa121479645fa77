use Rattle.std.proofs.Common.{◌≡◌, ◌++◌, length, map}
use Rattle.canonical_text.specs.Lines.{invariant_line}
use Rattle.canonical_text.proofs.print_stmts.print_invariants.Given as goal

abbrev pub invariant-loop-found : goal.invariant-loop-found
invariant-loop-found l = l.page ++ map (invariant_line l.indent) l.rest ≡ l.fn.page ++ map (invariant_line l.indent) l.list

abbrev pub decreases-loop-found : goal.decreases-loop-found
decreases-loop-found l = length l.rest
