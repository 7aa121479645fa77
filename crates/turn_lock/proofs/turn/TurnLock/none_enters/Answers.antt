use Rattle.turn_lock.proofs.Steps.{none_enters}
use Rattle.turn_lock.proofs.turn.TurnLock.none_enters.Goals as goal

pub returns : goal.returns
returns g c = none_enters g.S.Replayed.replays
