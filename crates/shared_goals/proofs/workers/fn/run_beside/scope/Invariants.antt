use Rattle.obligation_board.specs.Passes.{IsPassOf}
use Rattle.shared_goals.specs.Unused.{IsUnused}
use Rattle.shared_goals.proofs.workers.fn.run_beside.scope.Given as goal

abbrev pub invariant-loop : goal.invariant-loop
invariant-loop g l = IsPassOf l.board l.opener × IsUnused l.opener
