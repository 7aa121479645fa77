use Rattle.std.proofs.Common.{◌≡◌, ◌++◌, drop}
use Rattle.bpl_dependencies.specs.AppliedView.{texts_seen, variables_seen}
use Rattle.bpl_texts.specs.Uses.{uses_of}
use Rattle.bpl_texts.proofs.expr_uses.Uses.note_names.Given as goal

abbrev pub invariant-loop-name : goal.invariant-loop-name
invariant-loop-name l = texts_seen l.self.names.items ++ uses_of (variables_seen l.variables) (drop l.name-index l.names) ≡ texts_seen l.fn.self.names.items ++ uses_of (variables_seen l.variables) l.names
