use Rattle.std.proofs.Common.{◌≡◌, ◌++◌, take}
use Rattle.bpl_scopes.specs.Scopes.{texts_of}
use Rattle.bpl_dependencies.specs.AppliedView.{texts_seen}
use Rattle.bpl_dependencies.proofs.variables.push_texts.Given as goal

abbrev pub invariant-loop-name : goal.invariant-loop-name
invariant-loop-name l = texts_seen l.texts.items ≡ texts_seen l.fn.texts.items ++ texts_of (take l.name-index l.names)
