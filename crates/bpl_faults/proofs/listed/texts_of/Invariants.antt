use Rattle.std.proofs.Common.{◌≡◌, take}
use Rattle.bpl_scopes.specs.Scopes.{texts_of}
use Rattle.bpl_faults.specs.Arguments.{names_seen, texts_seen}
use Rattle.bpl_faults.proofs.listed.texts_of.Given as goal

abbrev pub invariant-loop-name : goal.invariant-loop-name
invariant-loop-name l = texts_seen l.texts.items ≡ texts_of (names_seen (take l.name-index l.names))
