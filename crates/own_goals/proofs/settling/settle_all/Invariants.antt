use Rattle.std.proofs.Common.{◌+◌, cond}
use Rattle.own_goals.specs.SoFar.{pending, IsLoop}
use Rattle.own_goals.proofs.settling.settle_all.Given as goal

abbrev pub invariant-loop-more : goal.invariant-loop-more
invariant-loop-more l = IsLoop l.more l.initial.board l.board

abbrev pub decreases-loop-more : goal.decreases-loop-more
decreases-loop-more l = cond l.more (pending l.board + 1) 0
