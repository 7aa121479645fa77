use Rattle.std.proofs.Common.{◌+◌, ◌≤◌}
use Rattle.server_tests.proofs.tests.trimming.settle_each.Given as goal

-- each goal is one claim
abbrev pub invariant-loop-i : goal.invariant-loop-i
invariant-loop-i g l = l.board.next ≤ l.initial.board.next + l._i
