use Rattle.std.proofs.Common.{rules}
use Rattle.turn_lock.proofs.Parting.{forks, names}
use Rattle.turn_lock.proofs.turn.TurnLock.fork.Goals as goal

pub split_seat-other-requires : goal.split_seat-other-requires
split_seat-other-requires g c = (search rules, search rules, forks g.S.Replayed.replays _ _ (search rules))

pub load-requires : goal.load-requires
load-requires g c = (search rules, search rules, names g.S.Replayed.replays _ _ _ (search rules))
