use Rattle.std.proofs.Common.{◌≡◌, take}
use Rattle.bpl_faults.specs.Arguments.{names_seen}
use Rattle.bpl_statement_faults.proofs.targets.borrowed.Given as goal

abbrev pub invariant-loop-name : goal.invariant-loop-name
invariant-loop-name l = names_seen l.found.items ≡ take l.name-index l.names
