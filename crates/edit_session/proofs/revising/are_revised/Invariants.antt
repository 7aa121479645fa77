use Rattle.std.proofs.Common.{take}
use Rattle.body_revision.specs.Revision.{AreRevised}
use Rattle.edit_session.specs.Revising.{changes}
use Rattle.edit_session.proofs.revising.are_revised.Given as goal

abbrev pub invariant-loop-replacement : goal.invariant-loop-replacement
invariant-loop-replacement l = AreRevised l.decls (changes (take l.replacement-index l.replacements))
