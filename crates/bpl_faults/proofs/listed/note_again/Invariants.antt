use Rattle.std.proofs.Common.{◌≡◌, [], drop, reverse}
use Rattle.bpl_scopes.specs.Fault.{again, earlier, first_fault}
use Rattle.bpl_faults.specs.Arguments.{names_seen}
use Rattle.bpl_faults.proofs.listed.note_again.Given as goal

abbrev pub invariant-loop-name : goal.invariant-loop-name
invariant-loop-name l = earlier l.faults.first (first_fault (again l.kind (reverse l.seen) (names_seen (drop l.name-index l.names)))) ≡ earlier l.fn.faults.first (first_fault (again l.kind [] (names_seen l.names)))
