use Rattle.std.proofs.Common.{◌≡◌, take}
use Rattle.program_edits.specs.Edited.{names}
use Rattle.program_edits.proofs.names.names_of.Given as goal

abbrev pub invariant-loop-decl : goal.invariant-loop-decl
invariant-loop-decl l = l.found ≡ names (take l.decl-index l.decls)
