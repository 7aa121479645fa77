use Rattle.std.proofs.Common.{◌≡◌, drop}
use Rattle.bpl_ast.specs.ExprView.{exprs_of}
use Rattle.bpl_faults.specs.ExprFaults.{are_built_patterns}
use Rattle.bpl_faults.proofs.patterns.are_built_patterns.Given as goal

abbrev pub invariant-loop-x : goal.invariant-loop-x
invariant-loop-x l = are_built_patterns (exprs_of (drop l.x-index l.xs)) ≡ are_built_patterns (exprs_of l.xs)
