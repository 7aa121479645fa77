use Rattle.std.proofs.Common.{◌≡◌, take}
use Rattle.bpl_model.specs.Rising.{inside}
use Rattle.bpl_model.proofs.number.each_once.Given as goal

-- those of the numbers so far
abbrev pub invariant-loop-i : goal.invariant-loop-i
invariant-loop-i l = l.kept.items ≡ inside l.low l.count (take l.i l.sorted)
