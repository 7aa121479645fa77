use Rattle.std.proofs.Common.{◌≡◌, take}
use Rattle.body_revision.proofs.arguments.same_arguments.Given as goal

abbrev pub invariant-loop-i : goal.invariant-loop-i
invariant-loop-i l = take l.i l.mine ≡ take l.i l.theirs
