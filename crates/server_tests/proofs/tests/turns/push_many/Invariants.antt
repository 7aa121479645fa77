use Rattle.std.proofs.Common.{◌≡◌}
use Rattle.turn_lock.specs.Lock.{IsFree, lock_id}
use Rattle.server_tests.proofs.tests.turns.push_many.Given as goal

abbrev pub invariant-loop-i : goal.invariant-loop-i
invariant-loop-i g l = (l.pass.table_id ≡ lock_id l.fn.lock) × IsFree l.pass
