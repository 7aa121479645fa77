use Rattle.std.proofs.Common.{◌≡◌, take, map}
use Rattle.bpl_ast.specs.Statement.{Target}
use Rattle.bpl_faults.specs.Arguments.{names_seen}
use Rattle.bpl_statement_faults.proofs.targets.target_names.Given as goal

abbrev pub invariant-loop-target : goal.invariant-loop-target
invariant-loop-target l = names_seen l.found.items ≡ map (λ (t : Target). t.name) (take l.target-index l.targets)
