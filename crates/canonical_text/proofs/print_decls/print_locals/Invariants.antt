use Rattle.std.proofs.Common.{◌≡◌, ◌++◌, length, map}
use Rattle.bpl_ast.specs.ExprView.{each_groups_of}
use Rattle.canonical_text.specs.Lines.{local_line}
use Rattle.canonical_text.proofs.print_decls.print_locals.Given as goal

abbrev pub invariant-loop-groups : goal.invariant-loop-groups
invariant-loop-groups l = l.page ++ map local_line (each_groups_of l.rest) ≡ l.fn.page ++ map local_line (each_groups_of l.list)

abbrev pub decreases-loop-groups : goal.decreases-loop-groups
decreases-loop-groups l = length l.rest
