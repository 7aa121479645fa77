use Rattle.std.proofs.Common.{◌≡◌, take}
use Rattle.bpl_ast.proofs.copy_stmts.copy_invariants.Given as goal

abbrev pub invariant-loop-found : goal.invariant-loop-found
invariant-loop-found l = l.copies.items ≡ take l.found-index l.invariants
