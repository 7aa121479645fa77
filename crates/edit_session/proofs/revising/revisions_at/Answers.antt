use Rattle.edit_session.proofs.ReadRevisions.{there_at, none_yet, next_revision, all_revisions}
use Rattle.edit_session.proofs.revising.revisions_at.Goals as goal

pub loop-replacement-init : goal.loop-replacement-init
loop-replacement-init c = none_yet c.args.decls.now c.new-found.result.items c.new-found.ensures.items

pub revision_at-requires-clause-there : goal.revision_at-requires-clause-there
revision_at-requires-clause-there c = there_at c.args.decls.now c.args.replacements.now c.loop-replacement.replacement-index _ c.loop-replacement-test.true c.replacement-item.is c.requires.there

pub loop-replacement-preserved : goal.loop-replacement-preserved
loop-replacement-preserved c =
    next_revision c.args.decls.now c.args.replacements.now c.loop-replacement.replacement-index _ c.loop-replacement.found.items _ c.in-Some.revision c.loop-replacement-test.true c.replacement-item.is c.in_ok-push-in-Some.ensures.items c.loop-replacement.invariant
    (rw c.in-Some.is at c.in_ok-revision.ensures)

pub returns : goal.returns
returns c = all_revisions c.args.decls.now c.args.replacements.now c.loop-replacement.replacement-index c.loop-replacement.found.items c.loop-replacement-test.false c.loop-replacement.invariant
