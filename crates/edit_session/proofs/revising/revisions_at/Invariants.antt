use Rattle.std.proofs.Common.{take}
use Rattle.edit_session.specs.Revising.{AreBrought}
use Rattle.edit_session.proofs.revising.revisions_at.Given as goal

abbrev pub invariant-loop-replacement : goal.invariant-loop-replacement
invariant-loop-replacement l = AreBrought l.decls (take l.replacement-index l.replacements) l.found.items
