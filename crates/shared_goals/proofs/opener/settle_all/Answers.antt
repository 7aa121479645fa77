use Rattle.std.proofs.Common.{◌∙◌, refl}
use Rattle.shared_goals.proofs.Openers.{none_settled, settled_more, worked_more}
use Rattle.shared_goals.proofs.opener.settle_all.Goals as goal

pub loop-init : goal.loop-init
loop-init g c = (none_settled c.args.board.now c.args.opener.now c.requires, (refl, refl))

pub loop-preserved : goal.loop-preserved
loop-preserved g c = (settled_more c.args.board.now c.args.opener.now c.loop.opener c.settle_one.new.opener c.loop.invariant.0 c.in-Ok-false.ensures.settled, (c.settle_one.ensures.passes.0 ∙ c.loop.invariant.1.0, c.settle_one.ensures.passes.1 ∙ c.loop.invariant.1.1))

pub returns-in-Ok-true-clause-settled : goal.returns-in-Ok-true-clause-settled
returns-in-Ok-true-clause-settled g c = settled_more c.args.board.now c.args.opener.now c.loop.opener c.settle_one.new.opener c.loop.invariant.0 c.in-Ok-true.ensures.settled

pub returns-in-Err-clause-memory : goal.returns-in-Err-clause-memory
returns-in-Err-clause-memory g c = worked_more c.args.board.now c.args.opener.now c.loop.opener c.settle_one.new.opener c.loop.invariant.0 c.in-Err.ensures.memory
