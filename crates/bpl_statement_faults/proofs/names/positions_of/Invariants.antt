use Rattle.std.proofs.Common.{◌≡◌, take}
use Rattle.bpl_scopes.specs.Scopes.{texts_of}
use Rattle.bpl_faults.specs.Arguments.{names_seen}
use Rattle.bpl_statement_faults.proofs.names.positions_of.Given as goal

abbrev pub invariant-loop-name : goal.invariant-loop-name
invariant-loop-name l = l.texts ≡ texts_of (names_seen (take l.name-index l.names))
