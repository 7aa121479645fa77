use Rattle.std.proofs.Common.{◌≡◌, take}
use Rattle.bpl_dependencies.proofs.reach.are_same.Given as goal

abbrev pub invariant-loop-i : goal.invariant-loop-i
invariant-loop-i l = take l.i l.mine ≡ take l.i l.others
