use Rattle.std.proofs.Common.{◌≡◌, ◌++◌, length}
use Rattle.canonical_text.specs.Lines.{program_text}
use Rattle.canonical_text.proofs.print_decls.print.Given as goal

abbrev pub invariant-loop-decl : goal.invariant-loop-decl
invariant-loop-decl l = l.out.items ++ program_text l.rest ≡ program_text l.fn.program

abbrev pub decreases-loop-decl : goal.decreases-loop-decl
decreases-loop-decl l = length l.rest
