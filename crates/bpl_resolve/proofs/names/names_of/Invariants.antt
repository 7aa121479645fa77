use Rattle.std.proofs.Common.{◌≡◌, take}
use Rattle.bpl_scopes.specs.Scopes.{texts_of}
use Rattle.bpl_resolve.proofs.names.names_of.Given as goal

abbrev pub invariant-loop-name : goal.invariant-loop-name
invariant-loop-name l = l.found.items ≡ texts_of (take l.name-index l.names)
