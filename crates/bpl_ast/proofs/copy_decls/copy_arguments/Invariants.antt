use Rattle.std.proofs.Common.{◌≡◌, take}
use Rattle.bpl_ast.proofs.copy_decls.copy_arguments.Given as goal

abbrev pub invariant-loop-argument : goal.invariant-loop-argument
invariant-loop-argument l = l.copies.items ≡ take l.argument-index l.arguments
