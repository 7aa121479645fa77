use Rattle.std.proofs.Common.{◌≡◌, ◌++◌, drop}
use Rattle.bpl_scopes.specs.Scopes.{texts_of}
use Rattle.bpl_texts.proofs.uses.push_texts.Given as goal

abbrev pub invariant-loop-name : goal.invariant-loop-name
invariant-loop-name l = l.texts ++ texts_of (drop l.name-index l.names) ≡ l.fn.texts ++ texts_of l.names
