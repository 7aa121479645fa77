use Rattle.shared_goals.proofs.Openers.{is_later}
use Rattle.shared_goals.proofs.opener.close.Goals as goal

pub returns-clause-later : goal.returns-clause-later
returns-clause-later g c = is_later c.args.board.now c.args.opener.now c.close.new.opener _ c.close.result.place _ c.requires c.close.ensures.call c.close.ensures.knows c.close.ensures.pass
