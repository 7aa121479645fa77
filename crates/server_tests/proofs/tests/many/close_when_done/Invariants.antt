use Rattle.std.proofs.Common.{◌≡◌}
use Rattle.turn_lock.specs.Lock.{number}
use Rattle.obligation_board.specs.Passes.{IsPassOf}
use Rattle.server_tests.proofs.tests.many.close_when_done.Given as goal

abbrev pub invariant-loop : goal.invariant-loop
invariant-loop g l = IsPassOf l.board l.opener × (number l.opener ≡ 0)
