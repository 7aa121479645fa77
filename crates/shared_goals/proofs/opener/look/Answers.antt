use Rattle.std.proofs.Common.{refl}
use Rattle.shared_goals.proofs.Openers.{stays_opener, none_pending}
use Rattle.shared_goals.proofs.opener.look.Goals as goal

pub returns-clause-opener : goal.returns-clause-opener
returns-clause-opener g c = stays_opener c.args.board.now c.args.opener.now c.look.new.pass _ c.look.result.place _ c.requires c.look.ensures.call c.look.ensures.knows c.look.ensures.pass refl

pub returns-clause-done : goal.returns-clause-done
returns-clause-done g c none = let r = c.look.result.reply in none_pending c.args.board.now c.args.opener.now c.look.new.pass c.look.result.place r.version r.done r.pending r.closed c.look.ensures.call none
