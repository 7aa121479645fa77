use Rattle.shared_goals.proofs.Openers.{looked_settled}
use Rattle.shared_goals.proofs.opener.all_answered.Goals as goal

pub returns-then-not-done-clause-settled : goal.returns-then-not-done-clause-settled
returns-then-not-done-clause-settled g c = looked_settled c.args.board.now c.args.opener.now c.look-done.new.opener _ c.look-done.ensures.opener

pub returns-else-not-done-clause-settled : goal.returns-else-not-done-clause-settled
returns-else-not-done-clause-settled g c = looked_settled c.args.board.now c.args.opener.now c.look-done.new.opener _ c.look-done.ensures.opener
