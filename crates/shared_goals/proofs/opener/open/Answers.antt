use Rattle.std.proofs.Common.{refl}
use Rattle.shared_goals.proofs.Openers.{stays_opener}
use Rattle.shared_goals.proofs.opener.open.Goals as goal

pub returns-in-Ok-clause-opened : goal.returns-in-Ok-clause-opened
returns-in-Ok-clause-opened g c = stays_opener c.args.board.now c.args.opener.now c.«open».new.opener _ c.in-Ok.receipt.place _ c.requires c.in-Ok.ensures.call c.«open».ensures.knows c.«open».ensures.pass refl

pub returns-in-Err-clause-memory : goal.returns-in-Err-clause-memory
returns-in-Err-clause-memory g c = let m = c.in-Err.ensures.memory in stays_opener c.args.board.now c.args.opener.now c.«open».new.opener _ m.0 _ c.requires m.1 c.«open».ensures.knows c.«open».ensures.pass refl
