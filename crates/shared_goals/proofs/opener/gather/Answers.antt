use Rattle.std.proofs.Common.{refl}
use Rattle.shared_goals.proofs.Openers.{stays_opener, all_shown}
use Rattle.shared_goals.proofs.opener.gather.Goals as goal

pub returns-in-Ok-clause-shown : goal.returns-in-Ok-clause-shown
returns-in-Ok-clause-shown g c =
    let b = c.args.board.now in
    let p = c.args.opener.now in
    let q = c.gather.new.pass in (
      stays_opener b p q _ c.in-Ok.receipt.place _ c.requires.opener c.in-Ok.ensures.call c.gather.ensures.knows c.gather.ensures.pass refl,
      all_shown b p q c.in-Ok.receipt.place _ c.requires.opener c.in-Ok.ensures.call c.requires.kept,
    )

pub returns-in-Err-clause-memory : goal.returns-in-Err-clause-memory
returns-in-Err-clause-memory g c = let m = c.in-Err.ensures.memory in stays_opener c.args.board.now c.args.opener.now c.gather.new.pass _ m.0 _ c.requires.opener m.1 c.gather.ensures.knows c.gather.ensures.pass refl
