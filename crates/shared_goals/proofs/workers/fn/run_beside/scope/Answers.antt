use denote.Param.Send.{sendable}
use Rattle.shared_goals.proofs.Crossing.{settled_send, settled_sync}
use Rattle.shared_goals.proofs.workers.fn.run_beside.scope.Goals as goal

pub start-requires-send-P-A : goal.start-requires-send-P-A
start-requires-send-P-A g c κs within = search (sendable, settled_send)

pub start-requires-sync-P-A : goal.start-requires-sync-P-A
start-requires-sync-P-A g c κs within = search (sendable, settled_sync)
