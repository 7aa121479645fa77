use Rattle.edit_session.proofs.ReadRevisions.{next_faultless, all_faultless}
use Rattle.edit_session.proofs.revising.are_faultless.Goals as goal

pub loop-replacement-preserved : goal.loop-replacement-preserved
loop-replacement-preserved c = next_faultless c.args.names.now.declarations c.args.replacements.now c.loop-replacement.replacement-index _ _ c.loop-replacement-test.true c.replacement-item.is c.in_ok-is_faultless.ensures c.if-not-branch.false c.loop-replacement.invariant

pub returns : goal.returns
returns c = λ so. all_faultless c.args.names.now.declarations c.args.replacements.now c.loop-replacement.replacement-index c.loop-replacement-test.false c.loop-replacement.invariant
