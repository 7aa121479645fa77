use Rattle.edit_session.proofs.ReadRevisions.{there_at, next_revised, are_revised}
use Rattle.edit_session.proofs.revising.are_revised.Goals as goal

pub is_revision_at-requires : goal.is_revision_at-requires
is_revision_at-requires c = there_at c.args.decls.now c.args.replacements.now c.loop-replacement.replacement-index _ c.loop-replacement-test.true c.replacement-item.is c.requires

pub loop-replacement-preserved : goal.loop-replacement-preserved
loop-replacement-preserved c =
    next_revised c.args.decls.now c.args.replacements.now c.loop-replacement.replacement-index _ c.loop-replacement-test.true c.replacement-item.is
    (there_at c.args.decls.now c.args.replacements.now c.loop-replacement.replacement-index _ c.loop-replacement-test.true c.replacement-item.is c.requires) (c.in_ok-is_revision_at.ensures c.if-not-branch.false) c.loop-replacement.invariant

pub returns : goal.returns
returns c = λ so. are_revised c.args.decls.now c.args.replacements.now c.loop-replacement.replacement-index c.loop-replacement-test.false c.loop-replacement.invariant
