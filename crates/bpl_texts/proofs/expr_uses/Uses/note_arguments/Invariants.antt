use Rattle.std.proofs.Common.{◌≡◌, ◌++◌, drop}
use Rattle.bpl_dependencies.specs.AppliedView.{texts_seen}
use Rattle.bpl_texts.specs.Uses.{arguments_uses}
use Rattle.bpl_texts.proofs.expr_uses.Uses.note_arguments.Given as goal

abbrev pub invariant-loop-argument : goal.invariant-loop-argument
invariant-loop-argument l = texts_seen l.self.names.items ++ arguments_uses (drop l.argument-index l.arguments) ≡ texts_seen l.fn.self.names.items ++ arguments_uses l.arguments
