use Rattle.std.proofs.Common.{◌≡◌, ◌+◌, drop, sum}
use Rattle.edit_session.specs.Built.{goal_counts}
use Rattle.edit_session.proofs.board_calls.count.Given as goal

abbrev pub invariant-loop-proc : goal.invariant-loop-proc
invariant-loop-proc l = l.count + sum (goal_counts (drop l.proc-index l.procs)) ≡ sum (goal_counts l.procs)
