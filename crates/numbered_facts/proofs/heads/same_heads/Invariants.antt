use Rattle.std.proofs.Common.{◌≡◌, drop}
use Rattle.numbered_facts.specs.Heads.{same_heads}
use Rattle.numbered_facts.proofs.heads.same_heads.Given as goal

abbrev pub invariant-loop-i : goal.invariant-loop-i
invariant-loop-i l = same_heads (drop l.i l.mine) (drop l.i l.theirs) ≡ same_heads l.mine l.theirs
