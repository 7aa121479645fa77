use Rattle.std.proofs.Common.{take}
use Rattle.body_revision.specs.Revision.{HaveNoFaults}
use Rattle.edit_session.specs.Revising.{changes}
use Rattle.edit_session.proofs.revising.are_faultless.Given as goal

abbrev pub invariant-loop-replacement : goal.invariant-loop-replacement
invariant-loop-replacement l = HaveNoFaults l.names.declarations (changes (take l.replacement-index l.replacements))
