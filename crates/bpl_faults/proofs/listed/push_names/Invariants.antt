use Rattle.std.proofs.Common.{◌≡◌, ◌++◌, take}
use Rattle.bpl_faults.specs.Arguments.{names_seen}
use Rattle.bpl_faults.proofs.listed.push_names.Given as goal

abbrev pub invariant-loop-name : goal.invariant-loop-name
invariant-loop-name l = names_seen l.found.items ≡ names_seen l.fn.found.items ++ take l.name-index l.names
