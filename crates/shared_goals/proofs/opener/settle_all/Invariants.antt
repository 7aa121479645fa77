use Rattle.shared_goals.specs.Known.{MakesNoPass}
use Rattle.shared_goals.specs.Opener.{HasSettled}
use Rattle.shared_goals.proofs.opener.settle_all.Given as goal

abbrev pub invariant-loop : goal.invariant-loop
invariant-loop g l = HasSettled l.board l.fn.opener l.opener × MakesNoPass l.fn.opener l.opener
